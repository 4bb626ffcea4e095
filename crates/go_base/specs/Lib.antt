pub mod Rules
pub mod Devices
pub mod Lines
pub mod NameTable
