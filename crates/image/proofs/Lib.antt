pub mod Ends
pub mod Zeros
pub mod Reserved
pub mod Locks
pub mod Passwords
