pub mod Appending
pub mod Driven
pub mod Following
pub mod Forms
pub mod Moving
pub mod Phis
pub mod Told
