pub mod CuttingSteps
pub mod Lengths
