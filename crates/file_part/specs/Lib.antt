-- The part file: what it says.
pub mod Layout
pub mod Part
-- Passed on to the crates above.
pub use Rattle.file_job.specs.file_field
pub use Rattle.file_job.specs.math
