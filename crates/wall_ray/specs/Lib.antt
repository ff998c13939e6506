-- What a ray strikes first.
pub mod Slab
pub mod Strike
pub mod Nearest
pub mod Work
