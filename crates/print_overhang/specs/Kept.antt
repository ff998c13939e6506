-- What the scratch holds of the faces that hang over. Definitions only.
use Rattle.std.specs.Prelude.{◌≡◌, cond, List, ℕ, ◌+◌, ◌<◌, get_or, Float}
use Rattle.std.specs.Float.{nan}
use Rattle.list_laws.specs.Region.{Outside}
use Rattle.file_part.specs.Part.{Part}
use Rattle.solid_faces.specs.Faces.{faces_of}
use Rattle.scratch.specs.declared.regions.Regions.{Regions}
use Rattle.print_overhang.specs.declared.Lean.{Lean}
use Rattle.print_overhang.specs.declared.Overhang.{Overhang}
use Rattle.print_overhang.specs.Overhang.{is_kept, overhang_count, overhang_area}

-- 1 for each face that hangs over, 0 for the other faces
pub record Marks (t : Part) (lean : Lean) (at : Regions) (words : List ℕ) : Type 0 where
  pub each : (f : ℕ) → f < faces_of t → get_or words (at.order + f) 0 ≡ cond (is_kept t lean f) 1 0

-- how many there are and their area; they are marked, and of the scratch only the cells of the order and the keys have changed
pub record OverhangsPut (t : Part) (lean : Lean) (at : Regions) (words words' : List ℕ) (reals reals' : List Float) (r : Overhang) : Type 0 where
  pub count : r.count ≡ overhang_count t lean
  pub area : r.area ≡ overhang_area t lean
  pub marks : Marks t lean at words'
  pub words_kept : Outside 0 at.order at.kinds words words'
  pub reals_kept : Outside nan at.falling at.thickness reals reals'
