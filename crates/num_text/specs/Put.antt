-- Text as a list of bytes, and what writing it into a lent slice leaves. Definitions only.
use Rattle.std.specs.Prelude.{◌≡◌, List, [], ◌∷◌, ◌++◌, cond, ℕ, ◌+◌, ◌-◌, ◌/◌, ◌%◌, ◌<◌, ◌^◌, min, ltb, length}
use Prim.Native.Char.{code}
use Prim.Native.String.{String}
use Prim.Native.String as String
use Rattle.std.proofs.lemmas.List.Edits.{sets}

-- a character in UTF-8: one byte below 128, two below 2048, and no text here has one above
abbrev pub utf8 : ℕ → List ℕ
utf8 n = cond (ltb n 128) (n ∷ []) ((192 + n / 64) ∷ (128 + n % 64) ∷ [])

-- the bytes of a literal
abbrev pub bytes : String → List ℕ
bytes String.[] = []
bytes (String.◌∷◌ c s) = utf8 (code c) ++ bytes s

-- the slice d after the bytes p are written over it from the position at on; what would fall past its end is lost
unfoldable pub over : List ℕ → ℕ → List ℕ → List ℕ
over d at p = sets d at p

-- the position n bytes after at. It stops at 2 ^ 63, where no slice reaches, so that no sum of positions wraps
unfoldable pub advance : ℕ → ℕ → ℕ
advance at n = at + min n (2 ^ 63 - at)

-- Writing the bytes p from the position at on turns the slice d into e, and r is the position after them.
pub record Put (d : List ℕ) (at : ℕ) (p e : List ℕ) (r : ℕ) : Type 0 where
  -- every slice is shorter
  pub room : length d < 2 ^ 63
  pub slice : e ≡ over d at p
  pub next : r ≡ advance at (length p)
