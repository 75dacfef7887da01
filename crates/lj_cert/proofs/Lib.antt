pub mod Colons
pub mod Unique
pub mod OneReading
pub mod Reaching
pub mod Taking
mod Faulty
mod FieldLists
pub mod Least
pub mod OneRefusal
pub mod StoredUses
pub mod Looking
pub mod Keeping
pub mod LowCells
pub mod NoUses
pub mod Outcomes
pub mod BaseCosts
mod TextLines
mod PutLines
mod WrittenLines
pub mod WrittenCerts
pub mod WrittenGood
pub mod WrittenFacts
pub mod Writable
