pub mod Changes
pub mod Closing
pub mod Listed
pub mod Puts
pub mod Showing
