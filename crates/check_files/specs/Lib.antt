pub mod Held
pub mod Judgement
