pub mod Telling
pub mod Growing
pub mod OneTerm
pub mod OneThing
