pub mod Made
pub mod Pairs
pub mod Binary
pub mod Shifting
pub mod Comparing
pub mod Unary
pub mod Stating
pub mod Addressing
