pub mod Answers
pub mod Masks
pub mod Wholes
pub mod Joining
