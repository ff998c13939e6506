-- What the functions of this crate leave on the way. A reader may pass over it.
use Rattle.std.specs.Prelude.{◌≡◌, cond, List, [], ◌∷◌, ◌++◌, ℕ, ◌+◌, ◌<◌, length, get_or, set, Float, Option, Some, None}
use Rattle.std.specs.Float.{nan, binary64}
use Rattle.std.specs.Float.Ieee.{add}
use Rattle.list_laws.specs.Region.{part, Outside}
use Rattle.file_part.specs.Part.{Part, part_of}
use Rattle.scratch.specs.declared.regions.Regions.{Regions}
use Rattle.scratch.specs.Standing.{Standing}
use Rattle.wall_tree.specs.wall_ray.specs.declared.strike.Hit.{Hit}
use Rattle.wall_starts.specs.Work.{KeptFalling}
use Rattle.wall_samples.specs.declared.cast.Reading.{Reading}
use Rattle.wall_samples.specs.Samples.{e_6, faces_back}
use Rattle.wall_samples.specs.Stored.{Stored}

-- ---- one ray
-- what the ray of polygon p hits, where that faces back ..
unfoldable pub back_hit : Part → ℕ → Option Hit → Option Hit
back_hit t p (Some h) = cond (faces_back t p h.polygon) (Some h) None
back_hit t p None = None

-- .. and the reading of such a hit (`readings_from_lem` of the laws)
unfoldable pub taken : ℕ → Option Hit → List Reading
taken p (Some h) = record { polygon = p; hit = h.polygon; thickness = add binary64 h.t e_6 } ∷ []
taken p None = []

-- what is hit is a polygon of n
unfoldable pub HitBelow : ℕ → Option Hit → Type 0
HitBelow n (Some h) = h.polygon < n
HitBelow n None = Unit {0}

-- ---- one reading more
-- both polygons of r as those of reading k
unfoldable pub put_polygons : Regions → ℕ → Reading → List ℕ → List ℕ
put_polygons at k r words = set (set words (at.readings + k) r.polygon) (at.hits + k) r.hit

-- its thickness, and the area of the polygon that it starts from
unfoldable pub put_measures : Regions → ℕ → Reading → Float → List Float → List Float
put_measures at k r area reals = set (set reals (at.thickness + k) r.thickness) (at.weights + k) area

-- to k readings others were added; of the words nothing changed but the cells from the readings to before number e
pub record Added (t : Part) (at : Regions) (e k : ℕ) (more : List Reading) (words words' : List ℕ) (reals reals' : List Float) (r : ℕ) : Type 0 where
  pub count : r ≡ k + length more
  pub stored : (l : List Reading) → length l ≡ k → Stored t at l words reals → Stored t at (l ++ more) words' reals'
  pub words_kept : Outside 0 at.readings e words words'
  pub reals_kept : Outside nan at.thickness at.rounds reals reals'

-- ---- what the rays of a face ask for
-- the body stands in the scratch, and after it the areas negated
pub record Ready (s : List ℕ) (at : Regions) (words : List ℕ) (reals : List Float) : Type 0 where
  pub standing : Standing s at words reals
  pub falling : KeptFalling (part_of s) at.polygons (part at.falling at.thickness reals)

-- polygons of the part stand in the first n cells of the order
pub record Listed (at : Regions) (n : ℕ) (words : List ℕ) : Type 0 where
  pub each : (i : ℕ) → i < n → get_or words (at.order + i) 0 < at.polygons
