pub mod Tokens
pub mod Private
