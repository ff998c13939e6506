-- Laws that callers and the proofs of several functions use.
-- putting text: one writer after another (`put_then`), measuring (`put_measures_lem`), what a text that fits leaves (`put_fits`, `put_front`)
pub mod PutLaws
-- the same of a `Text` (`adds_then`, `adds_same`)
pub mod TextLaws
-- how long numbers are (`length_numeral`, `length_digits`, `width_le`)
pub mod NumberLaws
-- the decimal writer: which numbers it takes (`in_range_lem`, `accepts`, `accepted_text`, `never_refused`), how long their text is (`text_length`)
pub mod DecimalLaws
-- for callers that know a bound (`accepted_at`, `written_at`, `written_first`)
pub mod NeverRefused
-- rounding a fraction to a whole number, and a float times a power of ten
pub mod Rounding
pub mod Scaling
