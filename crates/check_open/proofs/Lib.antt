pub mod Itself
pub mod Opening
pub mod Standing
