pub mod Bytes
pub mod Cutting
pub mod Fixed
pub mod Lengths
