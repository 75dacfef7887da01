pub mod KeptStates
pub mod LaterReads
pub mod OneRun
pub mod Replaying
pub mod SamePrices
pub mod SameSteps
pub mod Stepping
pub mod TableSteps
