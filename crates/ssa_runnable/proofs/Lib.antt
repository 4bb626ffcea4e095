pub mod Boxing
pub mod Lists
pub mod Looking
pub mod Nesting
pub mod Runnable
pub mod Throwing
