-- What private functions leave on the way; a reader may pass over it. Definitions only.
use Rattle.std.specs.Prelude.{◌≡◌, List, ℕ, Ok}
use Rattle.file_ok.specs.Verdict.{verdict_of}

-- ---- beside Verdict.antt
-- a file that none of 1 to 7 turns back
unfoldable pub Readable : List ℕ → Type 0
Readable s = verdict_of s ≡ Ok tt
