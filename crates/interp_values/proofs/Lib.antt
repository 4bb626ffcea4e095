pub mod Followed
pub mod Looked
pub mod Made
pub mod Operations
pub mod Outcomes
pub mod PartValues
pub mod Stepped
pub mod Turned
