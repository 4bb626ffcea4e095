pub mod Joined
pub mod Joining
pub mod Quoted
pub mod Naming
pub mod Sorting
pub mod TypeText
