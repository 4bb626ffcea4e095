pub mod Operating
pub mod Paired
pub mod Compared
pub mod Addresses
