pub mod RankCounts
pub mod Order
pub mod SetList
pub mod Successor
pub mod Subsets
