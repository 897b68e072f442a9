pub mod Cutting
pub mod Proved
pub mod Reading
pub mod Adding
pub mod CertLines
pub mod Citing
