pub mod Machines
pub mod Replays
pub mod Runs
pub mod Sameness
