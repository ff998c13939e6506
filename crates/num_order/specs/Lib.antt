-- The order of f64 under addition and multiplication.
pub mod Work
