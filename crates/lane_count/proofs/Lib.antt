pub mod Summing
pub mod Adding
pub mod Beside
pub mod Levels
pub mod Words
