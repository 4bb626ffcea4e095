pub mod FileReading
pub mod Loading
pub mod Answers
pub mod Starting
