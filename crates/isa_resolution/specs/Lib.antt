pub mod Ready
pub mod Unifiers
pub mod Compose
