pub mod Samples
pub mod Tested
