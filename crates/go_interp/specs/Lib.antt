pub mod Output
pub mod Phis
pub mod Ran
pub mod Steps
