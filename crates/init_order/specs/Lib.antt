pub mod Naming
pub mod Order
pub mod Groups
pub mod Taking
