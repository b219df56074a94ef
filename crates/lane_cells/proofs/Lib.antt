pub mod Excluded
pub mod Lane
pub mod Cells
pub mod Table
pub mod Blocks
pub mod Signals
