pub mod Played
pub mod Witness
pub mod Play
pub mod Keys
