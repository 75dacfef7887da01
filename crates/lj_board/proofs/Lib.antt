pub mod Framed
pub mod Lessers
pub mod Moves
