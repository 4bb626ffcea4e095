pub mod Characters
pub mod Literals
pub mod Marks
pub mod Pieces
pub mod Lexical
