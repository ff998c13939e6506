-- Items by their pairs of faces.
pub mod Pairs
pub mod Work
-- Passed on to the crates above.
pub use Rattle.solid_ranks
