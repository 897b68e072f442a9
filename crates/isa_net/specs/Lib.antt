pub mod Symbols
pub mod Words
pub mod Count
pub mod Nets
pub mod Inside
