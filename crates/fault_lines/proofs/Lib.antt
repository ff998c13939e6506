-- The laws on the lines of a list of faults. Other crates cite these:
-- MemberLaws: members of a list, and lists in an order
--   in-left, in-right, in_cases, ordered_append   one list after another
--   in-one, one-in, one_ordered                   one element where a test passes, else none
--   in_at, at-in, in-map, map_in                  members by their places, and of a list that is mapped
--   same_list               two lists in one strict order with the same members are one
-- IdLaws: sorted_once_lem, once_only          `sorted_once` is sorted, each once, and nothing else is; lower_irreflexive
-- HeadingLaws: the test of two headings, or two texts, says that they are one
--   heading_same, heading_self, heading_on, heading_off, heading_symmetric, heading_transitive, heading_like
--   text-same, text_self, text_on, text_off
-- SumLaws: sum-same, sum_add, sum_zero, sum_front, count_sum, count_alike    sums and counts over the numbers below n
-- AlikeLaws: the faults of one line
--   at-before, at-last, alike_append, total_append, faces_append            one list after another
--   alike_more, alike_on, alike_off, alike_none, total_more, faces_more     one fault more
--   first_lowest, first_le, first-passes, first_least   `first` is the lowest number of a heading; first_is: nothing else is
--   first_before, first_after                           and with more faults
--   first_own, first_own_le, is_first_lem, first_like, like_first      and on the line of fault i
--   total_sum, length_sum, length_count     the count of a line and how many faults it has, by their numbers
--   alike_in, alike_own, in_faces, faces_in its faults, and their faces
--   faces_alone, faces_several, faces_once  its faces
-- Unique: determined        the faults determine the lines; the order of lines: before_ranks, ranks_before, before_apart, before_irreflexive, before_transitive
-- Found: listed             `lines_of` gives the lines; line_count: how many they are; rank-lt
pub mod MemberLaws
pub mod IdLaws
pub mod HeadingLaws
pub mod SumLaws
pub mod AlikeLaws
pub mod Unique
pub mod Found
