mod Acting
mod Held
