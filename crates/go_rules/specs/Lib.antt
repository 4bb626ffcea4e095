pub mod Breaches
pub mod Untyped
pub mod Operands
pub mod Folding
pub mod Matching
