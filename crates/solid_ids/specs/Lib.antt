-- The ids of faces, and their order.
pub mod Ids
pub mod Work
