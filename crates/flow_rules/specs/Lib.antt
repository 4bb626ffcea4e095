pub mod Surroundings
pub mod Terminating
