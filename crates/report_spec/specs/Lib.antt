pub mod High
pub mod Report
