pub mod Growing
pub mod Steps
pub mod Syntaxes
pub mod Loops
pub mod OneAnswer
