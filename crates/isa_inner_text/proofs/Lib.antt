pub mod Steps
pub mod Lists
pub mod OneOutcome
pub mod Putting
pub mod Walk
pub mod Phrases
