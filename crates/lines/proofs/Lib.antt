pub mod Printed
pub mod Sealed
pub mod OutputLine
pub mod Answered
pub mod Called
pub mod Whole
