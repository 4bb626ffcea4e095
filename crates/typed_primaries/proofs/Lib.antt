pub mod Stepping
pub mod Follows
pub mod Indexes
pub mod Slices
pub mod Asserts
pub mod Selects
pub mod MethodNames
pub mod Lists
