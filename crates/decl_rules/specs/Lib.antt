pub mod Cycles
pub mod Denoting
pub mod Receivers
