pub mod Bases
pub mod Circles
pub mod Following
pub mod Loops
