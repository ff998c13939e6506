-- The laws on the printed report. Other crates cite these:
-- ReportLaws: reported_only, listed_text  two outcomes of one call are one, and the text is that of the lines that demand 3 tells
-- OrderLaws: the faults that begin the lines, in their order
--   lines_led_lem, leads_length, leads_few, leads_begin     they give the lines, are as many, no more than the faults, and each begins one
--   found-none, found_more, found-all, found_room       those found so far
--   leading_none, leading_on, leading_off, leading_all, leading_part    the cells that hold them
-- LineLaws: the lines that the code writes
--   severity_told, front-same, text-same, count_is      the parts of a line
--   not-first, by-rank                      whether a fault begins one of a rank
--   noted_none, noted-more, noted_all, unnoted, rank_low, rank_absent   ranks that no fault has
--   led_none, led_low, led_there, led_first, led_line, led_all      one line after the other
pub mod OrderLaws
pub mod LineLaws
pub mod ReportLaws
