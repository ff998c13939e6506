-- The laws on part files that are not turned back. Other crates cite these:
-- ReadableLaws: what acceptance says, of a file that none of refusals 1 to 7 turns back
--   readable_tests          each test that it passed
--   readable_length, readable_counts                    its length, and that V and P are within their limits
--   readable_job            the bounds of the job's fields
--   readable_vertex         coordinates are at most 10,000 in size
--   readable_run            a run begins where the last one ends, has 3 to 64 vertices, and lies inside the vertex block
--   readable_whole          the runs fill the vertex block
--   readable_surface        the numbers of a surface are in their ranges
--   readable_entry_room, readable_vertex_room, readable_index    entries, vertices and indexes lie inside the file
-- RefusalLaws: not_none, none_refused      0 is the number of no refusal
--   answered                no refusal is an answer
--   passed_up               what `?` returns
--   earlier_first, earlier_is, earlier_none, passed      refusal 10 after the earlier ones
-- GoodLaws, PolygonLaws, VerdictLaws: the steps of the functions here
pub mod GoodLaws
pub mod PolygonLaws
pub mod VerdictLaws
pub mod ReadableLaws
pub mod RefusalLaws
