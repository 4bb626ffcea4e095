pub mod BuiltIns
pub mod Places
pub mod Packages
pub mod Reading
pub mod Soundness
pub mod Sources
pub mod Loaded
