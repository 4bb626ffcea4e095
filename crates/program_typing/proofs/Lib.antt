pub mod Lists
pub mod Pairs
pub mod ClauseForms
pub mod StmtForms
pub mod Both
pub mod Numbered
pub mod GetsAt
