-- What the second pass over OBJ text leaves.
pub mod Filled
pub mod Work
