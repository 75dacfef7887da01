pub mod Giving
pub mod Permuted
pub mod Reporting
pub mod Sections
pub mod Taking
