pub mod Form
pub mod Output
pub mod Calls
