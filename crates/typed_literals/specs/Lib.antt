pub mod Composing
pub mod Structs
pub mod InOrder
pub mod Arrays
pub mod Maps
