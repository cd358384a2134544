pub mod Units
pub mod Listed
