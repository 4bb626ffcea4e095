pub mod BuiltIns
pub mod Moving
pub mod Measuring
pub mod Making
pub mod Growing
pub mod Extremes
pub mod Dispatch
