pub mod Quadruples
pub mod Generated
