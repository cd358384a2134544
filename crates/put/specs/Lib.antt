pub mod Put
pub mod Number
