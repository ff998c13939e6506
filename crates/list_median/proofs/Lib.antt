-- The laws on the weighted median. Other crates cite these:
-- MedianLaws
--   median_each             what 0.0 and each value have, the median has
--   median_some             the same of the values alone, where there is a pair
--   weight_same             the weights added, by the first numbers only
-- the others are the steps of the functions here. Samples: medians computed
pub mod MedianLaws
mod Samples
