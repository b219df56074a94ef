pub mod Sources
pub mod Graph
