pub mod Lists
pub mod Steps
pub mod Ends
pub mod MarkLaws
pub mod Silencing
pub mod GraphTest
