-- The bends of a sheet.
pub mod Bends
pub mod Kept
pub mod Work
