pub mod LeastNumbers
pub mod Equations
pub mod Unquantified
pub mod WorkedRules
pub mod Counted
pub mod Granting
pub mod Normalised
pub mod Premises
