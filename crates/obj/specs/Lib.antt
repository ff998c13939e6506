-- OBJ text and a job as a part file.
pub mod Converts
pub mod Work
