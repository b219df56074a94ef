pub mod Building
pub mod Answering
