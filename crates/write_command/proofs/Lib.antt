pub mod Joining
pub mod Files
pub mod Putting
pub mod Items
pub mod Answers
