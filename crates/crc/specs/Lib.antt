pub mod Crc
pub mod Halves
