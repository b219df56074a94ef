pub mod Sums
pub mod Feeding
pub mod Placing
pub mod Ordering
pub mod After
pub mod Visiting
pub mod Searching
pub mod Findings
