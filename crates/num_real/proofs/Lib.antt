-- The laws on what the functions of this crate mean. Each file's `pub` laws may be cited by other crates.
-- decompose: the size of a decomposed float, as a whole number or as a fraction (`whole_size`, `fraction_size`)
pub mod BitsLaws
-- comparisons with itself, zero and a power of two (`ne_self`, `below_power`, `from_power`)
pub mod CompareLaws
-- fractions to whole numbers: nearest (`round_nearest`), bounds (`round_at_most`, `ceil_at_most`), whole ones stay
pub mod FractionLaws
-- round_i64 and ceil_usize: bounds (`round_within`, `ceil_within`), sign and size (`round_by_size`), whole numbers (`round_of_integer`)
pub mod RoundingLaws
-- min, max, abs: one of the two (`min_either`), at most both (`min_le`), bounds (`min_within`, `abs_within`), NaN (`min_nan_first`), size and sign (`abs_num`, `abs_not_negative`)
pub mod SelectLaws
-- what the shifts of round_i64 and ceil_usize compute
pub mod ShiftLaws
