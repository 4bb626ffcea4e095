pub mod Edges
pub mod Numbered
pub mod Violated
