-- The rules of a job, and what a job within them has.
pub mod Rules
pub mod Good
