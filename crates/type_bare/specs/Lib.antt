pub mod Same
pub mod Stripped
