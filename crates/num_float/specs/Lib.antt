-- What the laws on f64 speak of.
pub mod Order
pub mod Sign
pub mod Within
pub mod Units
pub mod Work
