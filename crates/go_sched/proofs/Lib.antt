pub mod Ascending
pub mod Held
pub mod Changes
pub mod Closed
pub mod First
pub mod Entered
pub mod Paths
pub mod Reached
pub mod Served
pub mod Turned
mod Spent
