pub mod Arrays
pub mod Cells
pub mod Conversions
pub mod MapCalls
pub mod Slices
pub mod Stores
