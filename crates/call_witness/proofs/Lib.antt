pub mod Steps
pub mod Goals
pub mod Runs
pub mod Files
pub mod Numbers
pub mod Putting
pub mod Names
