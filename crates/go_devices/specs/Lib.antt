pub mod CallPlan
pub mod Memory
pub mod Streams
