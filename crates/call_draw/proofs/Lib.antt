pub mod Draws
pub mod Turns
pub mod Call
