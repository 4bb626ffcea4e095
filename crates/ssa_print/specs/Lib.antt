pub mod Variables
pub mod Operands
pub mod Instructions
pub mod Functions
pub mod Codes
