pub mod Names
pub mod Degrees
pub mod Tables
pub mod Uploads
pub mod Quotas
