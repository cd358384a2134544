pub mod Figures
pub mod Eights
pub mod Rows
pub mod Fitting
pub mod Lending
