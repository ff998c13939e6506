-- Laws that callers and the proofs of several functions use.
-- a list cut at a byte (`take_before`, `drop_after`)
pub mod CutLaws
-- whole numbers: their value under the cap (`capped_from`), its bound by the number of digits (`value_bound`)
pub mod WholeLaws
-- decimals: one division of two whole numbers rounds right (`div_whole`), a zero keeps its sign (`zero_keeps_sign`)
pub mod DecimalLaws
