pub mod Readying
pub mod Answered
pub mod Joining
