-- The flanges of a sheet.
pub mod Flanges
pub mod Work
-- Passed on to the crates above.
pub use Rattle.fault_text
