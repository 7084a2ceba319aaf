pub mod Grammar
pub mod Laws
pub mod Lexemes
pub mod Moves
pub mod Outcomes
pub mod Read
