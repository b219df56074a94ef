pub mod Make
pub mod Count
pub mod Marks
