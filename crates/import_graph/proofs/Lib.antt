pub mod EdgesOfNode
pub mod Walked
pub mod Leading
