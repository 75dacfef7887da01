pub mod JsonTexts
pub mod Listed
pub mod Walking
