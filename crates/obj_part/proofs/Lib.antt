-- Laws that callers and the proofs of several functions use.
-- how long a part file is (`part_length`)
pub mod FileLaws
