pub mod Counting
pub mod Making
pub mod Answering
