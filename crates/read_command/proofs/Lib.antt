pub mod Forms
pub mod Misfits
pub mod Care
pub mod Position
