pub mod Cases
pub mod Lists
pub mod Whole
pub mod Series
pub mod Answers
pub mod Joined
pub mod Call
pub mod Cut
