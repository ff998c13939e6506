-- Laws that callers and the proofs of several functions use.
-- NameLaws
--   names_by_bytes          the ranks of the rules are the byte order of their names
--   severity_of_lem             a severity by its rank
--   severity_rank_lt, rule_rank_lt      there are 3 and 18
--   severity_rank_same, rule_rank_same  no two share a rank
--   severity_tag, rule_tag      the rank is the number of the case
-- RowLaws
--   row-same, row-kept      a row whose cells and numbers are as they were, and one before those that changed
--   cells-fit, numbers-fit  a row that is lent lies inside the slices
--   row_stored, row_lost    what putting a row leaves
--   row_put_same            a row put, by an equal row
-- FlawLaws: flaws and their rows
--   flaw_of_row             the flaw of a flaw's row
--   flaws_none, flaws_one, flaws_then, flaws_same       flaws put as rows: none, one, one list after another, an equal list
--   flaws_before            the rows before them
pub mod NameLaws
pub mod RowLaws
pub mod FlawLaws
