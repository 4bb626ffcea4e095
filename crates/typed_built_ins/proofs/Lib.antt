pub mod Asks
pub mod Moves
pub mod Makes
pub mod Grows
pub mod Dispatches
pub mod Greatest
