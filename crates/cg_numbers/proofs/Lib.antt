pub mod Collecting
pub mod Likened
pub mod Lists
