pub mod Done
pub mod Operations
pub mod Received
pub mod Recovered
