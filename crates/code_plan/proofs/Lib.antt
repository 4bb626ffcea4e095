pub mod Fronts
pub mod Going
pub mod Leading
pub mod Methods
pub mod Starting
pub mod Stepped
pub mod Zipped
