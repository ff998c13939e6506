-- The holes of a sheet.
pub mod Name
pub mod Nearest
pub mod Holes
pub mod Work
