-- Laws that callers and the proofs of several functions use.
-- RowLaws: the faults that rows hold. Other crates cite these:
--   rows_length, rows-at, rows_heading      row k is fault k
--   rows_put, rows_good, rows_count         rows that rules put hold the faults of the flaws that were put, are rows, and their counts
--   rows_less                               fewer rows
--   lead_first, count_total, members_length the lowest fault, the count and how many faults a line has, as the lines of faults have them
-- TextLaws: a text in a buffer of its own, and headings whose ranks are known
--   text_short, written, text_compared, row-count, row_severity_lt, rank-is, other_rank, by_text
--   row_severity                            the severity that a flaw's row keeps. Other crates cite it
-- HashLaws: hash_start, hash_step, hash_end the steps of the loop; other_hash: other hashes, other headings
-- LeadLaws: the lowest fault of a line, and what its faults add up to
--   shares_heading, heading_shares, shares_self         faults that share a line have one heading
--   lead_le, lead_least, lead_below, lead_shares, lead_like, lead_lead, lead_of_sharer, sharer_of_lead    `lead_in`
--   tally_more, tally_le                    one fault more, and how much at most
-- CellLaws: opened_by, added_by             the stores
-- MergeLaws: merged_none, merged_more       no fault, and one more; room-at, joined-at: in the words of the calls
-- RecallLaws: rows that agree have one heading; cells past those of the faults. Other crates cite these:
--   front_none, front_then, front_set, merged_front     the cells before a number stay, and with them the lines
pub mod TextLaws
pub mod HashLaws
pub mod LeadLaws
pub mod CellLaws
pub mod MergeLaws
pub mod RecallLaws
pub mod RowLaws
