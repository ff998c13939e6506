-- What the functions of this crate leave on the way. A reader may pass over it.
use Rattle.std.specs.Prelude.{Bool, true, ◌≡◌, List, ℕ, ◌+◌, ◌*◌, ◌≤◌, ◌<◌, length, get_or, Float}
use Rattle.std.specs.Float.{nan}
use Rattle.list_laws.specs.Region.{part, Outside}
use Rattle.file_part.specs.Part.{Part}
use Rattle.solid_faces.specs.Kept.{Faces, FaceAreas}
use Rattle.solid_volumes.specs.solid_segments.specs.Sides.{SharedSegments}
use Rattle.solid_volumes.specs.solid_bodies.specs.Body.{Labels}
use Rattle.solid_volumes.specs.Volume.{Volumes}
use Rattle.solid_boxes.specs.Tree.{PartTree}
use Rattle.scratch.specs.declared.regions.Regions.{Regions}
use Rattle.scratch.specs.Regions.{words_needed, reals_needed, scanned}

-- ---- the regions as a function of P and V, and of what is asked for: `only_regions` of the laws says that a struct which is laid out so is this one
unfoldable pub regions_of : ℕ → ℕ → Bool → Bool → Regions
regions_of p v segments bodies =
    record {
      polygons = p;
      vertices = v;
      segments = segments;
      bodies = bodies;
      tree = p;
      sides = 5 * p;
      items = 5 * p + 3 * v;
      sorted = 5 * p + 4 * v;
      chain = 5 * p + 6 * v;
      work = p + 6 * v;
      faces = 5 * p + 8 * v;
      firsts = 6 * p + 8 * v;
      readings = 6 * p + 8 * v + 1024;
      hits = 7 * p + 8 * v + 1024;
      order = 8 * p + 8 * v + 1024;
      kinds = 10 * p + 8 * v + 1024;
      ranks = 11 * p + 8 * v + 1024;
      words = words_needed p v;
      areas = 4 * p;
      totals = 5 * p;
      volumes = 5 * p + 1024;
      boxes = 6 * p + 1024;
      falling = 14 * p + 1024;
      thickness = 15 * p + 1024;
      weights = 16 * p + 1024;
      rounds = 17 * p + 1024;
      directions = 24 * p + 1024;
      free = 24 * p + v + 1024;
      reals = reals_needed p v;
    }

-- ---- beside Standing.antt
-- what later stages may change of the words: the cells for sides in order, and those past the body. All else is as it was
pub record BodyKept (at : Regions) (old new : List ℕ) : Type 0 where
  pub front : (i : ℕ) → i < at.items → get_or new i 0 ≡ get_or old i 0
  pub chain : (i : ℕ) → at.chain ≤ i → i < at.faces → get_or new i 0 ≡ get_or old i 0
  pub faces : (i : ℕ) → at.faces ≤ i → i < at.readings → get_or new i 0 ≡ get_or old i 0
  pub long : length new ≡ length old

-- ---- on the way
-- the bodies are put where they are asked for, and nothing past their work has changed
pub record LabelsPut (t : Part) (at : Regions) (old new : List ℕ) : Type 0 where
  pub labels : at.bodies ≡ true → Labels t new
  pub kept : Outside 0 0 at.work old new

-- the sides are put where they are asked for, and nothing but their cells and their work has changed
pub record SidesPut (t : Part) (at : Regions) (old new : List ℕ) : Type 0 where
  pub sides : at.segments ≡ true → SharedSegments t (part at.sides at.items new)
  pub kept : Outside 0 at.sides at.faces old new

-- the bodies, the sides and the faces are put, and the chain is not yet
pub record WordsBefore (t : Part) (at : Regions) (words : List ℕ) : Type 0 where
  pub labels : at.bodies ≡ true → Labels t words
  pub sides : at.segments ≡ true → SharedSegments t (part at.sides at.items words)
  pub faces : Faces t (part at.faces at.readings words)

-- the areas of the faces are put, and nothing else has changed
pub record TotalsPut (t : Part) (at : Regions) (old new : List Float) : Type 0 where
  pub totals : FaceAreas t (part at.totals at.volumes new)
  pub kept : Outside nan at.totals at.volumes old new

-- the volumes are put where they are asked for, and nothing else has changed
pub record VolumesPut (t : Part) (at : Regions) (old new : List Float) : Type 0 where
  pub volumes : at.bodies ≡ true → Volumes t (part at.volumes at.boxes new)
  pub kept : Outside nan at.volumes at.boxes old new

-- the tree is put where the part has one, and nothing else has changed
pub record TreePut (t : Part) (at : Regions) (words words' : List ℕ) (reals reals' : List Float) : Type 0 where
  pub tree : scanned < at.polygons → PartTree t (part at.boxes at.falling reals') (part at.tree at.sides words')
  pub words_kept : Outside 0 at.tree at.sides words words'
  pub reals_kept : Outside nan at.boxes at.falling reals reals'
