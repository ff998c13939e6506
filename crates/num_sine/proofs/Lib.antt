-- The table's rules (`sine_rules`); the sine is exact (`sine_value`), from 0 to 1 and never falls (`sine_mono`).
pub mod Laws
