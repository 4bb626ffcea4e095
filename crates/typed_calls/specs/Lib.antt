pub mod Converting
pub mod Passing
pub mod Packing
pub mod Calling
