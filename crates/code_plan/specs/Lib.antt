pub mod Calls
pub mod Forms
pub mod Operands
pub mod Plans
pub mod Registers
pub mod Sites
pub mod Tables
