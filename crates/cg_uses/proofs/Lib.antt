pub mod GetsAt
pub mod Pairs
pub mod StmtForms
pub mod Stores
