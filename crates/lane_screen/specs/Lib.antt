pub mod Marks
pub mod Suspects
pub mod Hold
