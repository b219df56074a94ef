pub mod Never
pub mod Lanes
pub mod Care
pub mod Listing
pub mod Noting
