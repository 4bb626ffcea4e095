pub mod Outcomes
mod HandMade
pub mod Tied
pub mod Outputs
pub mod Fronts
mod Sampled
mod Slotted
pub mod Decoded
pub mod Mapped
pub mod Converted
