pub mod Wraps
pub mod Shifts
pub mod ZeroOf
pub mod ZeroTo
pub mod RuneAt
