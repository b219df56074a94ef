pub mod Draws
pub mod Drawn
pub mod Demand
