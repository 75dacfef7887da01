pub mod Marks
pub mod Lending
pub mod Words
