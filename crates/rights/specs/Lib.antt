pub mod Vault
pub mod Verdict
pub mod Passwords
pub mod Blocks
pub mod Registers
