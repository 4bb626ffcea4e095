pub mod Pairwise
pub mod Cases
pub mod Places
