-- What the private functions here say of the scratch: a reader of the meaning may pass over it. Definitions only.
use Rattle.std.specs.Prelude.{List, ◌≡◌, Bool, ◌&&◌, ◌||◌, cond, ℕ, ◌+◌, ◌≤◌, ◌<◌, Float, eqb, ltb, get_or, set, Option, Some, None}
use Rattle.list_laws.specs.Region.{Outside}
use Rattle.file_part.specs.Part.{part_of, Part}
use Rattle.solid_faces.specs.Faces.{faces_of}
use Rattle.solid_bodies.specs.Body.{some_below}
use Rattle.scratch.specs.declared.regions.Regions.{Regions}
use Rattle.solid_tours.specs.Work.Kept.{EdgesOrdered}
use Rattle.solid_tours.specs.Work.Kept as tours
use Rattle.round_all.specs.Kept.{Rounds}
use Rattle.sheet_bends.specs.declared.Sheet.{Sheet}
use Rattle.sheet_bends.specs.Kept.{Bends, bend_cell}
use Rattle.sheet_bends.specs.Bends.{outside_of, is_bend}

-- ---- beside Kept.antt
-- all that the rules on bends and holes ask for
pub record SheetStands (s : List ℕ) (sheet : Sheet) (words : List ℕ) (reals : List Float) : Type 0 where
  pub ordered : EdgesOrdered s sheet.edges.at words reals
  pub counted : tours.Counted (part_of s) sheet.edges
  pub rounds : Rounds (part_of s) sheet.edges.at words reals
  pub bends : Bends (part_of s) sheet.thickness sheet.edges.at words

-- ---- on the way
-- the first face outside of face f
unfoldable pub outside_found : Part → Float → ℕ → Option ℕ
outside_found t thick f = cond (ltb (outside_of t thick f) (faces_of t)) (Some (outside_of t thick f)) None

-- a bend of face f with the outside face g is put
unfoldable pub bend_stored : Regions → ℕ → ℕ → List ℕ → List ℕ
bend_stored at f g words = set (set (set words (at.order + f) (g + 1)) (at.order + at.polygons + f) 1) (at.order + at.polygons + g) 1

-- face g is of the bend of face f
unfoldable pub is_of_bend : Part → Float → ℕ → ℕ → Bool
is_of_bend t thick g f = is_bend t thick f && (eqb f g || eqb (outside_of t thick f) g)

-- the bends of the faces below n are put
pub record BendsTo (t : Part) (thick : Float) (at : Regions) (n : ℕ) (words words' : List ℕ) : Type 0 where
  pub outside : (f : ℕ) → f < n → get_or words' (at.order + f) 0 ≡ bend_cell t thick f
  pub left : (f : ℕ) → n ≤ f → f < faces_of t → get_or words' (at.order + f) 0 ≡ 0
  pub marks : (g : ℕ) → g < faces_of t → get_or words' (at.order + at.polygons + g) 0 ≡ cond (some_below n (is_of_bend t thick g)) 1 0
  pub kept : Outside 0 at.order at.kinds words words'
