pub mod Illegal
pub mod Settling
pub mod Cases
