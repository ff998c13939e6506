-- When a part file is turned back, and what one has that is not.
pub mod Rules
pub mod Verdict
pub mod Readable
pub mod Work
