pub mod Places
pub mod Searching
pub mod Tails
pub mod Chains
pub mod Choosing
pub mod Shifting
pub mod Splitting
