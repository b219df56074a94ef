pub mod Gates
pub mod Turns
pub mod Outputs
pub mod Inputs
pub mod Narrowing
