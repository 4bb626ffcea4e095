pub mod Telling
pub mod Placing
pub mod Walk
pub mod Turning
pub mod Initialisers
