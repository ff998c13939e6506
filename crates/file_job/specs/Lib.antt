-- The job of a part file.
pub mod Job
pub mod Work
-- Passed on to the crates above.
pub use Rattle.file_field
pub use Rattle.file_field.specs.math
