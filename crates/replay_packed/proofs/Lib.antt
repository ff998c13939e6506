-- Laws that the proofs of several functions use.
mod PackedLaws
