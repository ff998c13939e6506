-- What the sine table holds, and what its entries mean.
pub mod Table
pub mod Sine
