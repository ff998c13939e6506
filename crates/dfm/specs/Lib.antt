-- What the check of a part file answers and leaves.
pub mod Check
-- Passed on to the crates above.
pub use Rattle.dfm_core
