-- How far a thickness reading can be off.
pub mod Error
pub mod Work
