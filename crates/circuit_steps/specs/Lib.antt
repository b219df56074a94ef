pub mod Moves
pub mod Fed
