pub mod Lifted
pub mod Unifying
pub mod Matching
