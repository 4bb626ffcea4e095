pub mod Flags
pub mod Values
pub mod Packages
pub mod CommandLine
pub mod Errors
pub mod Reading
