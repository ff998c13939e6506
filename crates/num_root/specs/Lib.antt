-- What the square root means: the definition that callers cite (Root), the statement to believe (Nearest), and the steps between (Work).
pub mod Root
pub mod Nearest
pub mod Work
