-- What the program prints.
pub mod Program
