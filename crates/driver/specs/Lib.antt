pub mod Generating
pub mod Lines
pub mod Status
pub mod WholeAnswer
pub mod Performing
pub mod Reporting
