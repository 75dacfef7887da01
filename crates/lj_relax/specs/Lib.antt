pub mod Found
pub mod Readers
pub mod States
pub mod Steps
pub mod Tickets
