-- Laws that callers and the proofs of several functions use.
-- the lines from a place on (`forms_step`)
pub mod LineLaws
-- the tally, line by line, and what it tells of the whole text (`judged`)
pub mod TallyLaws
-- bounds on what a text says that neither 14 nor 15 refuses (`face_bounded`, `corner_inside`)
pub mod BoundLaws
-- the tables, line by line, and what they hold of the whole text
pub mod NoteLaws
