pub mod Moving
pub mod Whole
