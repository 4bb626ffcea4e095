pub mod Forms
mod FunctionNames
pub mod Searching
pub mod StatementForms
