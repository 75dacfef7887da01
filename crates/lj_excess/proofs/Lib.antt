pub mod ContainedSets
pub mod SetRanks
pub mod AmongPoints
pub mod ChangedCounts
pub mod DoubleCounting
pub mod BlockTallies
pub mod Verdicts
