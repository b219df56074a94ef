pub mod Counting
pub mod Cycles
pub mod Activity
pub mod Cut
