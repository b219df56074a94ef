pub mod Stage
pub mod Order
pub mod Rows
pub mod Reference
pub mod Form
