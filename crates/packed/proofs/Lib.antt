mod InBytes
mod Written
pub mod Again
pub mod Results
