-- Which polygons of a face the rays start from.
pub mod Starts
pub mod Work
