pub mod Boxed
pub mod Methods
pub mod Runnable
pub mod Tests
pub mod Zeros
