pub mod Pins
pub mod Marks
pub mod Settling
pub mod Turns
pub mod Rails
pub mod Resting
