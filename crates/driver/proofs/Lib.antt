mod Checked
mod Generated
mod Answering
pub mod Reported
