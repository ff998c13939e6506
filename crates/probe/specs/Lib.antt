-- What the probes mean: the roots of many numbers, many rays through a part, its tree of boxes, and the readings of a part as lists of numbers.
pub mod Each
pub mod Scratch
pub mod Rays
pub mod Cast
pub mod Open
pub mod SampleList
pub mod Tree
pub mod Work
