pub mod Loops
pub mod Lists
pub mod Names
pub mod Second
pub mod Lengths
