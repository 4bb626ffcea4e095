pub mod Asked
pub mod Stopping
pub mod Outputs
pub mod Checking
pub mod Graphs
pub mod Working
