pub mod Syntaxes
pub mod Notations
pub mod Refusals
pub mod Reading
pub mod Growing
pub mod Laws
pub mod Private
