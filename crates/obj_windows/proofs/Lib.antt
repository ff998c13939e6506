-- Laws that the proofs of several functions use.
-- windows of vertices, by one coordinate
pub mod WindowLaws
-- the second pass, line by line
pub mod FillLaws
