pub mod Samples
pub mod Halves
pub mod Bytes
