pub mod Padding
pub mod Cuts
pub mod Counts
pub mod Degrees
