pub mod Limits
pub mod Form
pub mod Entries
pub mod Row
pub mod Lent
