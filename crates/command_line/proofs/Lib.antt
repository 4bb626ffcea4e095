pub mod Digits
pub mod Names
pub mod Packaged
pub mod Parts
