pub mod Arguments
mod Asking
mod Calls
mod Characters
mod Operands
mod Panics
mod SlotFrames
pub mod Tops
mod Tuples
pub mod Turns
