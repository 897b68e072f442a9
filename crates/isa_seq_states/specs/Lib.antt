pub mod Introductions
pub mod Standing
pub mod Laws
