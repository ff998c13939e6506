-- What holds of the numbers below n, and of the parts of a slice.
pub mod Below
pub mod Region
