pub mod Family
pub mod Numbered
pub mod Listing
