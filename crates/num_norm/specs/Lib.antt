-- What the laws on lengths speak of.
pub mod Length
pub mod Least
pub mod Work
-- Passed on to the crates above.
pub use Rattle.num_float
