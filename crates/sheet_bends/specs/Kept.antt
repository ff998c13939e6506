-- What the scratch holds of a sheet's bends. Definitions only.
use Rattle.std.specs.Prelude.{◌≡◌, cond, List, ℕ, suc, ◌+◌, ◌<◌, get_or, Float, Option, Some, None}
use Rattle.list_laws.specs.Region.{Outside}
use Rattle.file_part.specs.Part.{Part}
use Rattle.solid_faces.specs.Faces.{faces_of}
use Rattle.scratch.specs.declared.regions.Regions.{Regions}
use Rattle.sheet_bends.specs.Bends.{outside_of, is_bend, bend_count, is_bend_face}

-- the bend of a face: its outside face
unfoldable pub bend_of : Part → Float → ℕ → Option ℕ
bend_of t thick f = cond (is_bend t thick f) (Some (outside_of t thick f)) None

-- as a cell: 0 is none, and g + 1 is one with the outside face g
unfoldable pub bend_cell : Part → Float → ℕ → ℕ
bend_cell t thick f = cond (is_bend t thick f) (suc (outside_of t thick f)) 0

-- the bend of each face, and after P cells 1 for each face of a bend and 0 for the other faces
pub record Bends (t : Part) (thick : Float) (at : Regions) (words : List ℕ) : Type 0 where
  pub outside : (f : ℕ) → f < faces_of t → get_or words (at.order + f) 0 ≡ bend_cell t thick f
  pub marks : (g : ℕ) → g < faces_of t → get_or words (at.order + at.polygons + g) 0 ≡ cond (is_bend_face t thick g) 1 0

-- how many there are; they stand in the cells of the order, and nothing else has changed
pub record BendsPut (t : Part) (thick : Float) (at : Regions) (words words' : List ℕ) (r : ℕ) : Type 0 where
  pub count : r ≡ bend_count t thick
  pub bends : Bends t thick at words'
  pub kept : Outside 0 at.order at.kinds words words'
