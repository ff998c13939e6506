-- What laws speak of on the way; a reader may pass over it. Definitions only.
use Rattle.std.specs.Prelude.{List, [], ◌∷◌, ◌<◌}
use Rattle.file_part.specs.Part.{Part}
use Rattle.wall_samples.specs.declared.cast.Reading.{Reading}
use Rattle.measure_sizes.specs.Reading.{ReadingBounds}

-- ---- what each element of a list has
unfoldable pub Each : {A : Type 0} → (A → Type 0) → List A → Type 0
Each P [] = Unit {0}
Each P (x ∷ xs) = P x × Each P xs

-- ---- beside Reading.antt
-- a reading of a part: from one of its polygons to one of its polygons
pub record ReadingWithin (t : Part) (r : Reading) : Type 0 where
  pub polygon : r.polygon < t.polygons
  pub hit : r.hit < t.polygons
  pub thickness : ReadingBounds r.thickness
