pub mod Reduced
pub mod Choices
pub mod Greedy
pub mod Gains
pub mod Failures
