pub mod Expression
pub mod Cell
pub mod Table
pub mod Unweighted
