-- What the clauses of private functions cite, and no public one.
pub mod Lists
pub mod Reach
pub mod Trails
pub mod Index
pub mod Holding
