pub mod Numbered
pub mod Chained
pub mod Fronts
pub mod Runs
pub mod Shown
pub mod Summed
