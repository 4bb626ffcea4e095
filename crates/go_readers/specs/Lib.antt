pub mod Lines
pub mod Specs
pub mod Funcs
pub mod Expressions
pub mod Operands
pub mod Statements
