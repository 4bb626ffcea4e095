pub mod Telling
pub mod Parts
pub mod Trees
pub mod Alike
