-- CornerLaws: the steps from corner to corner.
pub mod CornerLaws
