pub mod Best
pub mod Steps
pub mod Runs
