pub mod Gathering
pub mod Sources
pub mod Closing
pub mod Raising
