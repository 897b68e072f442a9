pub mod RawTerms
pub mod RawCodes
pub mod RawLayers
pub mod RawFalls
