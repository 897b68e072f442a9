pub mod Ticks
pub mod Weights
pub mod Walks
pub mod Steps
pub mod Counting
pub mod InTurn
pub mod WorkedRows
