-- A list of bytes, cut at a byte. Definitions only.
use Rattle.std.specs.Prelude.{cond, List, [], ◌∷◌, ℕ, eqb}

-- the bytes before the first b; all where there is none
unfoldable pub before : ℕ → List ℕ → List ℕ
before b [] = []
before b (c ∷ l) = cond (eqb c b) [] (c ∷ before b l)

-- the bytes after the first b; none where there is none
unfoldable pub after : ℕ → List ℕ → List ℕ
after b [] = []
after b (c ∷ l) = cond (eqb c b) l (after b l)
