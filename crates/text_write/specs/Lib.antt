pub mod Parts
pub mod Second
