pub mod Marking
pub mod Operations
