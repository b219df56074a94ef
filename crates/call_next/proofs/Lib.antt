pub mod Pins
pub mod Stores
pub mod Shown
pub mod Locating
pub mod Searching
pub mod Calling
