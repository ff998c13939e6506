-- Thickness readings, and how the lent scratch holds them.
pub mod Samples
pub mod Stored
pub mod Work
