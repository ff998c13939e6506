-- The laws on readings and rounds of a checked file. Other crates cite these; `NonNeg x` and `Within x b` with b below 2^60 are what
-- Rattle.num_text.proofs.NeverRefused asks of a number that is printed.
-- EachLaws: each-append     what each element of a list has
-- Readings
--   readings_within           each thickness reading: its two polygons are the part's, and its thickness is above zero, at least 2^-20 and at most 2^17
--   reading_bounds            the thickness alone
-- Totals: total_area, total_number            the total area is at most 2^59, not negative, and no NaN
-- Extents: extent_spread      the lowest height of a face along an axis is at most the highest, and both are bounded
-- Rounds: round_bounds        radius, diameter, length and ratio of a round: finite, not negative, at most 2^27; its vectors too; rounds_bounds: each of them
-- Volumes: volume_within      the volume of a body is at most 2^58 in size
-- Limits: limit_accepted, gap_accepted       what passes dfm.rs's test x + 1e-9 < limit is a number that is printed, and so is `gap.max(0.0)`
pub mod EachLaws
pub mod Readings
pub mod Totals
pub mod Extents
pub mod Rounds
pub mod Volumes
pub mod Limits
