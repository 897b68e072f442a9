pub mod TypeSteps
pub mod TypeOutcomes
pub mod TypePhrases
pub mod TypeComplete
