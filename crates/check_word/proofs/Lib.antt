pub mod Falling
pub mod Nulling
pub mod Holding
pub mod Wrong
pub mod Found
