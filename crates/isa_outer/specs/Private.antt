-- What the contracts of private functions and the models of types cite. A reader need not believe it.
pub mod Answers
pub mod Heads
pub mod Layers
pub mod MethodCodes
pub mod MethodFalls
pub mod Parts
pub mod Words
