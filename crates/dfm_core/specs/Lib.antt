-- What is found of a part, and what the check answers.
pub mod Faults
pub mod Answer
pub mod Work
-- Passed on to the crates above.
pub use Rattle.report
