pub mod Run
pub mod Written
pub mod Does
pub mod Given
