pub mod Kinds
pub mod Passing
pub mod Places
pub mod Uses
