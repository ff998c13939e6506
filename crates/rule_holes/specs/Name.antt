-- Whether the material's name has some bytes in it: Rust's `contains` of strings. Definitions only.
use Rattle.std.specs.Prelude.{Bool, true, false, ◌&&◌, ◌||◌, List, [], ◌∷◌, ℕ, eqb}
use Rattle.file_part.specs.Part.{Part}

-- the text begins with these bytes
unfoldable pub starts_with : List ℕ → List ℕ → Bool
starts_with [] text = true
starts_with (w ∷ ws) [] = false
starts_with (w ∷ ws) (b ∷ text) = eqb w b && starts_with ws text

-- it does from some place on
unfoldable pub contains : List ℕ → List ℕ → Bool
contains word [] = starts_with word []
contains word (b ∷ text) = starts_with word (b ∷ text) || contains word text

-- there is a material, and its name contains the word
unfoldable pub is_named : Part → List ℕ → Bool
is_named t word = t.job.has_material && contains word t.name
