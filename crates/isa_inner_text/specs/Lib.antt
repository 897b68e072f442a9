pub mod Refusals
pub mod Signatures
pub mod Signature
pub mod Parts
pub mod Reading
pub mod Texts
pub mod Grammar
pub mod Private
