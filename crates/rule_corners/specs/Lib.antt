-- Inside corners between flat faces.
pub mod Corners
pub mod Sharp
pub mod Work
-- Passed on to the crates above.
pub use Rattle.fault_text
