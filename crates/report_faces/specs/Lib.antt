-- The faces of a line, and their text.
pub mod Text
pub mod Named
pub mod Work
-- Passed on to the crates above.
pub use Rattle.fault_merge
pub use Rattle.fault_merge.specs.fault_text
