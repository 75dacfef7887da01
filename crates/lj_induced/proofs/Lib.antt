pub mod Cheapest
pub mod Sums
