-- The edges of each face, in order.
pub mod Tours
pub mod Work
