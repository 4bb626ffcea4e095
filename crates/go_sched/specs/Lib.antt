pub mod Channels
pub mod Standing
pub mod Goroutines
pub mod Choices
pub mod Operations
