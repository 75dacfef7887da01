pub mod Values
pub mod LineForms
pub mod Scripts
pub mod Faults
pub mod Items
