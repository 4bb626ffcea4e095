pub mod Leasts
pub mod Order
pub mod Judging
