-- The laws on bodies. An index of those that other crates cite:
-- BodyLaws: what a body is, what `body_of` computes, and what the labels say
--   body_lowest, lowest_body        `body_of` is the lowest polygon that a chain joins with one, and nothing else is
--   touches_touch, touch_touches    `touches` says which polygons touch
--   body_low, body_known            a body goes by no number above its polygons, and by a polygon
--   body-own                        that is of the body itself
--   joined-same, same_joined        polygons have one number where a chain joins them, and only there
--   touch_turned, joined_turned     both ways
--   label_known, labels_as          a label is a polygon; a list that agrees below P has the labels too
-- ChainLaws: one, then, turned, bind, constant, lowest_only   chains of any relation
-- SomeLaws: some_none, some-more     whether some number below n passes a test
-- The others are for the proofs here: the forest of parents, the scan over the corners, the table of slots, the slices of the memory,
-- the memory after each step, the corners of an accepted part.
pub mod ChainLaws
pub mod ForestLaws
pub mod ScanLaws
pub mod TableLaws
pub mod SliceLaws
pub mod StepLaws
pub mod BodyLaws
pub mod CornerLaws
pub mod SomeLaws
