-- The part file of OBJ text.
pub mod Bytes
pub mod File
