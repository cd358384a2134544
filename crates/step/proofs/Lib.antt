pub mod Room
pub mod Unsealed
pub mod Acts
pub mod Rows
