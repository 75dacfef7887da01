pub mod Changes
pub mod States
pub mod Passes
pub mod Holding
