pub mod Forms
pub mod Methods
pub mod Grammar
pub mod Texts
pub mod Refusals
pub mod Samples
pub mod Private
