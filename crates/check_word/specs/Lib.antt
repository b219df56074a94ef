pub mod Fallen
pub mod Finds
pub mod Loaded
