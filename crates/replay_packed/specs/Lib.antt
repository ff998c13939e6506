-- What a packed file stands for.
pub mod Packed
