-- The faults of machining.
pub mod Machining
pub mod All
pub mod Work
-- Passed on to the crates above.
pub use Rattle.rule_corners
