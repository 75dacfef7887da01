pub mod Past
pub mod Rule
