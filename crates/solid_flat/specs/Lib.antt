-- Flat faces.
pub mod Flat
