-- What OBJ text says: its faces and vertices, and refusals 14 and 15.
pub mod Text
pub mod Judged
pub mod Work
