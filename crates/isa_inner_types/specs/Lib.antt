pub mod TypeReading
pub mod TypeAnswers
pub mod TypeGrammar
