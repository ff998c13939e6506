-- The laws on shared segments. An index of those that other crates cite, file by file.
-- KeyLaws: keys of coordinates, for any scale
--   int-same, int_self      equal whole numbers
--   key_parts, key_whole, key_self, key_flip, key_join   vertices of one key
--   key_within              the size of a key; segment_key_lem, body_key: of an accepted coordinate
--   from_zero_same, from_zero_le   keys counted from 0 fall together only where they agree
--   sum-fits, cast-fits, cast-is   the code that counts from 0
-- RunLaws: side_owned        each side of an accepted file lies in the run of its polygon, and ends at a vertex
-- SharedLaws: what the columns say after `shared_segments`
--   segment_shared, shared_segment   a pair of u + 1 above s is a shared segment, and back
--   side_alone, alone_side  a pair of s + 1 is a side that is alone
--   side_many, many_side    a pair of V + 1 is the first of more than two
--   part_sides_alike, part_side_self
pub mod KeyLaws
pub mod RunLaws
pub mod RowLaws
pub mod PlaceLaws
pub mod PackLaws
pub mod SharedLaws
