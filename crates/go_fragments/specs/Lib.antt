pub mod Giving
pub mod Words
pub mod Entries
pub mod Lines
pub mod Expressions
pub mod Operands
pub mod Statements
pub mod Specs
