-- What a flaw is told as.
pub mod Job
pub mod Text
pub mod Machining
pub mod Sheet
pub mod Printing
pub mod Many
pub mod Told
pub mod Good
