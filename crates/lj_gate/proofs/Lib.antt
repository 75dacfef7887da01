pub mod Pairing
pub mod Joined
pub mod Wholes
