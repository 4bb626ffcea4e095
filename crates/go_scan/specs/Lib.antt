pub mod Reach
pub mod Runs
pub mod Reading
pub mod Scanning
