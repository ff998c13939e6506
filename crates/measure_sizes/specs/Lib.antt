-- What the laws on readings and rounds speak of.
pub mod Reading
pub mod Round
pub mod Work
