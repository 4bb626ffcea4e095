pub mod Gathering
pub mod Composes
pub mod Structures
pub mod Keys
pub mod Items
pub mod Rows
pub mod Constants
pub mod Entries
