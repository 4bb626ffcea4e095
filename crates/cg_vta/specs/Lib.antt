pub mod Asks
pub mod Choosing
pub mod Facts
pub mod Flows
pub mod Passing
pub mod Rows
