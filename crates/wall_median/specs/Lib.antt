-- The weighted median of the readings of a part.
pub mod Rough
pub mod Work
-- Passed on to the crates above.
pub use Rattle.measure_sizes
