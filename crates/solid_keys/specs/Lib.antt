-- Sides of one key, and what the columns hold that find them.
pub mod Pair
pub mod Work
