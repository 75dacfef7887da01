pub mod BlockLines
pub mod BlockFiles
pub mod FaultTexts
pub mod Headers
