pub mod Runs
pub mod Building
pub mod Matching
pub mod Closing
