pub mod Operands
pub mod Conversions
pub mod Calls
pub mod Forms
pub mod Typed
