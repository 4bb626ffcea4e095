pub mod Asked
pub mod Errors
pub mod Frames
pub mod Machines
pub mod States
pub mod Turns
