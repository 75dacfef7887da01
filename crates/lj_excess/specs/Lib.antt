pub mod Multiplicities
pub mod Failures
pub mod Changes
