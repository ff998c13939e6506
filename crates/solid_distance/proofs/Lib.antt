-- SegmentLaws: the steps of the functions of `segment`
-- KeptLaws: a segment that is kept
--   square_is                            the squared distance from it is that from the segment's nearest point
--   put-same, put_kept, segment_same     what stands where it is put, and elsewhere
pub mod SegmentLaws
pub mod KeptLaws
