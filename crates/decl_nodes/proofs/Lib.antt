pub mod Hearing
pub mod Rows
