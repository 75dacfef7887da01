pub mod Bodies
pub mod Members
pub mod Numerals
pub mod OneReading
pub mod Reading
pub mod Unique
pub mod Writing
pub mod Written
