pub mod Turning
pub mod Membership
pub mod Marking
pub mod Listing
pub mod Spelling
pub mod Rest
