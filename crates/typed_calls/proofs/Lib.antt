pub mod Converts
pub mod Packs
pub mod Called
