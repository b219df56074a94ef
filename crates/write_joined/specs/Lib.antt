pub mod Whole
pub mod Moved
