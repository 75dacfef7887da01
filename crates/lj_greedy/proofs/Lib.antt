pub mod ReducedLists
pub mod ChosenSets
pub mod PointGains
pub mod RowSteps
pub mod GapRanks
pub mod BestPoints
pub mod GreedyLists
