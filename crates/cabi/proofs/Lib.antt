mod Left
pub mod OnlyOne
pub mod Same
pub mod Back
