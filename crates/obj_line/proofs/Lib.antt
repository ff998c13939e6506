-- Laws that callers and the proofs of several functions use.
-- a text or a line, cut from its front (`split_cut`, `fields_are`)
pub mod SplitLaws
-- the field after a place (`next_is`), and what it tells as a number
pub mod FieldLaws
-- the form of a line from its fields
pub mod FormLaws
-- what a line's first byte tells of its form (`form_kind`)
pub mod KindLaws
-- a line as it is read, with the numbers of a face in a table
pub mod ReadLaws
