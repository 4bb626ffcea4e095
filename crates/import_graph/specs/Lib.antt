pub mod Edges
pub mod Ranks
pub mod Cycles
