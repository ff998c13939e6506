-- What the shared segments of a part are, and what the columns hold that find them.
pub mod Key
pub mod Sides
pub mod Work
