-- The laws on flat faces. FlatLaws: plane_is, other_is, the surfaces by their variants
pub mod FlatLaws
