pub mod Written
mod Sorting
mod Listings
pub mod Working
pub mod Judged
