pub mod Counting
pub mod Refusal
pub mod FileParts
