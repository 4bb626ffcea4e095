pub mod Flushing
pub mod Naming
pub mod Order
