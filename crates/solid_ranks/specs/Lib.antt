-- The faces of a part in rising order of their ids.
pub mod Ranks
pub mod Kept
pub mod Work
