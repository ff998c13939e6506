-- Laws that callers and the proofs of several functions use.
-- the nearest whole number: one is such (`nearest_unique`), and `closest` is (`closest_nearest`, `is_closest`)
pub mod NearestLaws
-- a fraction of a power of 2, and half of one in 64 bits
pub mod BinaryLaws
-- how the code finds the nearest whole number
pub mod QuotientLaws
-- 320 x / 127 from the binary digits of x
pub mod ScaleLaws
-- numbers of one digit and of two
pub mod DigitLaws
-- k / 64 in lowest terms (`fraction_value`, `top_odd`, `lowest_terms`)
pub mod FractionLaws
-- which numbers are written (`accepted_inch`, `written_inch`), the nearest 64th (`nearest_64th`, `only_64th`), within 1/128 inch (`within_128th`),
-- how long the text is (`inch_length`, `inch_length_to`)
pub mod InchLaws
-- readings, computed
pub mod Readings
