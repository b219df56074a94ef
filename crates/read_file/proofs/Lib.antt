pub mod Search
pub mod Tops
pub mod Passing
pub mod Carrying
pub mod Noting
pub mod WholeFile
pub mod Room
