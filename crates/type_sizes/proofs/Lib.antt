pub mod Done
pub mod Leaves
pub mod Nested
pub mod PartGraphs
pub mod Anew
