-- The laws on the median of the readings. Other crates cite these:
-- RoughLaws: the readings as pairs of thickness and area
--   thickness_at                      the thickness of one reading
--   thickness_part, area_part         the lent parts hold the thickness and the area of each reading
--   reading_pairs                     what `weighted_median` asks for, of any numbers of readings
--   reading_median_lem                    what it then answers is `reading_median` of these numbers
-- NumberLaws: numbers_length, numbers_at             the numbers below n
pub mod NumberLaws
pub mod RoughLaws
