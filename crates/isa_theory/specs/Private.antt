-- What the contracts of private functions cite. A reader need not believe it.
pub mod Growing
