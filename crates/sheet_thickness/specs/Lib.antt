-- The thickness of a sheet.
pub mod Thickness
pub mod Kept
pub mod Work
