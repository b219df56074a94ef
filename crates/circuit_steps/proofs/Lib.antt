pub mod Moves
pub mod Toggle
pub mod Fed
pub mod Rules
pub mod Local
pub mod Goals
pub mod Stages
