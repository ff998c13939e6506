-- What a check with fault rows of its own answers and leaves.
pub mod Own
-- Passed on to the crates above.
pub use Rattle.dfm
pub use Rattle.dfm.specs.dfm_core
