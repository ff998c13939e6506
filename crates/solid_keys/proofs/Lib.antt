-- The laws on pairs. An index of those that other crates cite, file by file.
-- CountLaws: how many numbers pass a test, and the highest that does
-- CellLaws: Put               one cell is stored
-- WalkLaws: the walk along a slot's chain; ChainLaws: heads_start, heads_more, next-more, one item more in the slots
-- SideLaws: sides_alike       sides of one key have it of each other and in a row, where ends do
-- MeaningLaws: what `pair_of` means
--   shared_pair, pair_shared, alone_pair, pair_alone, many_pair, pair_many
pub mod CountLaws
pub mod SideLaws
pub mod CellLaws
pub mod PairLaws
pub mod MeaningLaws
pub mod ColumnLaws
pub mod WalkLaws
pub mod ChainLaws
pub mod StepLaws
