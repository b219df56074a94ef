pub mod Lane
pub mod Cells
