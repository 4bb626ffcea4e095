pub mod Terms
pub mod Known
pub mod Telling
