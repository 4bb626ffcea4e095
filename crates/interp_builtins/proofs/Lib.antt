mod Done
pub mod Forms
mod Outcomes
mod Printed
mod Received
mod Recovered
mod Slices
mod Switched
mod Woken
mod Worlds
