pub mod Alike
pub mod Numbered
pub mod Sites
