-- The tree of boxes alone. Definitions only.
use Rattle.std.specs.Prelude.{◌≡◌, List, ℕ, length, Float}
use Rattle.std.specs.Float.{nan}
use Rattle.list_laws.specs.Region.{part, Outside}
use Rattle.file_part.specs.Layout.{polygon_count_of}
use Rattle.file_part.specs.Part.{part_of}
use Rattle.scratch.specs.Refusal.{body_refusal_of}
use Rattle.solid_boxes.specs.Tree.{tree_reals, tree_words, PartTree}

-- "1 to 10 .. change no buffer"; else the first cells of both slices hold the part's tree, and the others are as they were
pub record TreePut (s words words' : List ℕ) (reals reals' : List Float) (r : ℕ) : Type 0 where
  pub answer : r ≡ body_refusal_of s (length words) (length reals)
  pub refused : (r ≡ 0 → ⊥) → (words' ≡ words) × (reals' ≡ reals)
  pub tree : r ≡ 0 → PartTree (part_of s) (part 0 (tree_reals (polygon_count_of s)) reals') (part 0 (tree_words (polygon_count_of s)) words')
  pub words_kept : r ≡ 0 → Outside 0 0 (tree_words (polygon_count_of s)) words words'
  pub reals_kept : r ≡ 0 → Outside nan 0 (tree_reals (polygon_count_of s)) reals reals'
