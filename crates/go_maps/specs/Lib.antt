pub mod Entries
pub mod Equality
pub mod Finds
pub mod Found
pub mod Keys
pub mod Maps
pub mod Places
