-- Fault rows as faults, and which of them share a line.
pub mod Hash
pub mod Rows
pub mod Merged
pub mod Work
-- Passed on to the crates above.
pub use Rattle.fault_text
