pub mod Numbers
pub mod Reading
pub mod Stages
pub mod Tables
pub mod Holding
pub mod Rows
pub mod Raw
pub mod References
