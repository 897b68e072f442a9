pub mod Prepending
