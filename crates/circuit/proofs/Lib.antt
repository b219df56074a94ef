pub mod Tabulate
pub mod Pins
pub mod Reordering
pub mod Order
pub mod Settling
pub mod Falling
pub mod Values
