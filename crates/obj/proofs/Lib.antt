-- Laws that the proofs of several functions use.
-- the parts of the file, one after the other
pub mod WriteLaws
-- the refusals
pub mod ConvertLaws
