-- The laws on vectors.
pub mod VectorLaws
