pub mod Ends
pub mod Started
pub mod Prepared
pub mod Whole
