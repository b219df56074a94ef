pub mod Within
pub mod Words
