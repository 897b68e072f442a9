-- What the contracts of private functions cite: the inferences that make each theorem, one after the other. A reader need not believe it.
pub mod Steps
pub mod Reshaping
pub mod Lifting
pub mod Renumbering
