-- Holes by directions in whole numbers.
pub mod Direction
pub mod GoesRound
pub mod Work
