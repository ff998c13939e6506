-- Text as lines, and a line as fields. Definitions only.
use Rattle.std.specs.Prelude.{Bool, true, false, List, [], ◌∷◌, ℕ, eqb}

-- a byte c in front of pieces: where it is the byte to cut at, an empty piece; elsewhere a part of the first piece
unfoldable pub piece : Bool → ℕ → List (List ℕ) → List (List ℕ)
piece true c ps = [] ∷ ps
piece false c [] = (c ∷ []) ∷ []
piece false c (p ∷ ps) = (c ∷ p) ∷ ps

-- a list cut at each b: one piece more than there are b
unfoldable pub split : ℕ → List ℕ → List (List ℕ)
unfolding piece
split b [] = [] ∷ []
split b (c ∷ l) = piece (eqb c b) c (split b l)

-- "lines end in a line feed or at the text's end": 10 is the byte of a line feed. After a last line feed stands an empty line, which is skipped
unfoldable pub lines_of : List ℕ → List (List ℕ)
unfolding split
lines_of text = split 10 text

-- the pieces without the empty ones, but the last stays as it is
unfoldable pub squeeze : List (List ℕ) → List (List ℕ)
squeeze [] = []
squeeze (p ∷ []) = p ∷ []
squeeze ([] ∷ q ∷ ps) = squeeze (q ∷ ps)
squeeze ((c ∷ p) ∷ q ∷ ps) = (c ∷ p) ∷ squeeze (q ∷ ps)

-- "One or more spaces stand before each field but a line's first, and nowhere else": 32 is the byte of a space. Several spaces are as good as
-- one; at the line's start or end they leave an empty field there, which no form has
unfoldable pub separate : List (List ℕ) → List (List ℕ)
unfolding squeeze
separate [] = []
separate (p ∷ ps) = p ∷ squeeze ps

unfoldable pub fields_of : List ℕ → List (List ℕ)
unfolding split separate
fields_of line = separate (split 32 line)
