-- What private functions tell: no public clause cites it.
pub mod Numbers
pub mod Raising
pub mod Granting
