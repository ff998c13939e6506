-- What the operations on vectors mean.
pub mod Vector
pub mod Size
-- Passed on to the crates above.
pub use Rattle.num_norm.specs.num_float
