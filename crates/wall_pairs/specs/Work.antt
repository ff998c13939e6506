-- What the functions of this crate leave on the way. A reader may pass over it.
use Rattle.std.specs.Prelude.{◌≡◌, List, ℕ, ◌<◌, ◌+◌, ◌≤◌, length, get_or, Float}
use Rattle.std.specs.Float.{nan}
use Rattle.list_laws.specs.Region.{part, Outside}
use Rattle.list_groups.specs.Work.{RunEnds}
use Rattle.file_part.specs.Part.{Part, part_of}
use Rattle.solid_faces.specs.Faces.{faces_of}
use Rattle.scratch.specs.declared.regions.Regions.{Regions}
use Rattle.scratch.specs.Standing.{Standing, Placed, Words}
use Rattle.solid_pairs.specs.solid_ranks.specs.Kept.{Ranked}
use Rattle.solid_pairs.specs.Pairs.{lower, higher}
use Rattle.solid_pairs.specs.Work.{PairsSorted, PairsTo}
use Rattle.wall_samples.specs.Samples.{readings_of}
use Rattle.wall_samples.specs.Stored.{Readings, reading}
use Rattle.wall_pairs.specs.declared.Counts.{Counts}
use Rattle.wall_pairs.specs.declared.NextWall.{NextWall}
use Rattle.wall_pairs.specs.Walls.{face_from, face_hit}

-- ---- the readings by pairs of faces in the lent scratch, and the walk over the pairs
-- as many faces and readings as the part has
pub record Counted (t : Part) (counts : Counts) : Type 0 where
  pub faces : counts.faces ≡ faces_of t
  pub readings : counts.readings ≡ length (readings_of t)

-- ---- the readings, sorted by their pairs
-- their keys, and their numbers in order
abbrev pub reading_keys : Regions → List Float → List Float
reading_keys at reals = part at.falling at.thickness reals

abbrev pub reading_order : Regions → List ℕ → List ℕ
reading_order at words = part at.order at.kinds words

-- all that the walk asks for
pub record WallsOrdered (s : List ℕ) (at : Regions) (words : List ℕ) (reals : List Float) : Type 0 where
  pub standing : Standing s at words reals
  pub readings : Readings (part_of s) at words reals
  pub ranked : Ranked (part_of s) at words
  pub sorted : PairsSorted (part_of s) (face_from (part_of s)) (face_hit (part_of s)) (length (readings_of (part_of s))) (reading_keys at reals) (reading_order at words)

-- the readings are sorted; nothing else in the scratch changed
pub record WallsPut (s : List ℕ) (at : Regions) (words words' : List ℕ) (reals reals' : List Float) : Type 0 where
  pub ordered : WallsOrdered s at words' reals'
  pub words_kept : Outside 0 at.order at.kinds words words'
  pub reals_kept : Outside nan at.falling at.thickness reals reals'

-- ---- the walk
-- at place i of the order, where the readings of a pair start, it has met `out`
unfoldable pub WallsTo : {X : Type 0} → Part → (ℕ → ℕ → List ℕ → List X) → ℕ → List X → Type 0
WallsTo t h i out = PairsTo t (face_from t) (face_hit t) (length (readings_of t)) h i out

-- the two faces of the reading at place i, and where the readings between them end. `next_wall` of the laws: from i to there the walk meets these two faces with these readings
pub record NextWallIs (t : Part) (at : Regions) (words : List ℕ) (reals : List Float) (i : ℕ) (r : NextWall) : Type 0 where
  pub run : RunEnds (reading_keys at reals) (reading_order at words) (length (readings_of t)) i r.end
  pub first : r.first ≡ lower t (face_from t (get_or (reading_order at words) i 0)) (face_hit t (get_or (reading_order at words) i 0))
  pub second : r.second ≡ higher t (face_from t (get_or (reading_order at words) i 0)) (face_hit t (get_or (reading_order at words) i 0))
  pub first_below : r.first < faces_of t
  pub second_below : r.second < faces_of t

-- ---- on the way
-- what the pair of a reading is read from, all of it u32
pub record FacesReady (s : List ℕ) (at : Regions) (words : List ℕ) : Type 0 where
  pub placed : Placed s at
  pub room : at.words ≤ length words
  pub the_words : Words (part_of s) at words
  pub ranked : Ranked (part_of s) at words
  pub starts : (k : ℕ) → k < length (readings_of (part_of s)) → get_or words (at.readings + k) 0 ≡ (reading (readings_of (part_of s)) k).polygon
  pub hits : (k : ℕ) → k < length (readings_of (part_of s)) → get_or words (at.hits + k) 0 ≡ (reading (readings_of (part_of s)) k).hit
