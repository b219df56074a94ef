pub mod Cases
pub mod Selected
pub mod Formed
pub mod Made
pub mod Answers
