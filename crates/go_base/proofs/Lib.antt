pub mod Texts
mod Below
