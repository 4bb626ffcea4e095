pub mod Known
pub mod Nesting
