pub mod Adding
pub mod LastSections
pub mod Names
pub mod SameItems
pub mod OneReading
pub mod Paths
pub mod Searching
pub mod Unique
