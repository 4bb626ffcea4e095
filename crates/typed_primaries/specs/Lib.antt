pub mod Steps
pub mod Indexing
pub mod Slicing
pub mod Asserting
pub mod Selecting
pub mod Listing
