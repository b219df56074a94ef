pub mod Findings
pub mod Wiring
pub mod Holding
pub mod Judging
pub mod Files
