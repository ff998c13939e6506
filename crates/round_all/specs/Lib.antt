-- The rounds of a part, and how the scratch holds them.
pub mod Round
pub mod Kept
pub mod Work
