pub mod Differing
pub mod Laws
