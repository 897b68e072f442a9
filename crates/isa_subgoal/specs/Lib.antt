pub mod Premises
pub mod Shape
pub mod Rules
pub mod Lift
pub mod Parts
pub mod Elimination
pub mod Renumbering
pub mod Private
