pub mod Every
pub mod Expressions
pub mod Patterns
pub mod Ranges
