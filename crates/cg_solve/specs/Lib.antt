pub mod LeastSets
pub mod Lists
pub mod Tables
