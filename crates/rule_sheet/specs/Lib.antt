-- The faults of sheet metal.
pub mod Material
pub mod Tight
pub mod All
pub mod Work
-- Passed on to the crates above.
pub use Rattle.rule_flanges
pub use Rattle.rule_holes
