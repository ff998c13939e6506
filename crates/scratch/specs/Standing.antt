-- What the lent scratch holds once a part's body has been put there, by the part alone. Definitions only.
use Rattle.std.specs.Prelude.{◌≡◌, true, List, ℕ, ◌≤◌, ◌<◌, length, Float}
use Rattle.list_laws.specs.Region.{part}
use Rattle.file_part.specs.Layout.{vertex_count_of, polygon_count_of}
use Rattle.file_part.specs.Part.{Part, part_of}
use Rattle.solid_volumes.specs.solid_segments.specs.Sides.{SharedSegments}
use Rattle.solid_volumes.specs.solid_bodies.specs.Body.{Labels}
use Rattle.solid_volumes.specs.Volume.{Volumes}
use Rattle.solid_boxes.specs.Tree.{PartTree}
use Rattle.solid_faces.specs.Faces.{Checked}
use Rattle.solid_faces.specs.Kept.{Faces, Chain, KeptPlanes, KeptAreas, FaceAreas}
use Rattle.scratch.specs.declared.regions.Regions.{Regions}
use Rattle.scratch.specs.Regions.{scanned, Laid}

-- a file that none of 1 to 9 turns back, and the regions of its part
pub record Placed (s : List ℕ) (at : Regions) : Type 0 where
  pub checked : Checked s
  pub laid : Laid at
  pub polygons : at.polygons ≡ polygon_count_of s
  pub vertices : at.vertices ≡ vertex_count_of s

-- the u32 scratch. Bodies and volumes are found for SLA and SLS alone, segments where a process asks for them: what it does not ask for is
-- not computed, and nothing is said of its cells
pub record Words (t : Part) (at : Regions) (words : List ℕ) : Type 0 where
  pub labels : at.bodies ≡ true → Labels t words
  pub sides : at.segments ≡ true → SharedSegments t (part at.sides at.items words)
  pub chain : Chain t (part at.chain at.faces words)
  pub faces : Faces t (part at.faces at.readings words)

-- the f64 scratch
pub record Reals (t : Part) (at : Regions) (reals : List Float) : Type 0 where
  pub planes : KeptPlanes t at.polygons (part 0 at.areas reals)
  pub areas : KeptAreas t at.polygons (part at.areas at.totals reals)
  pub totals : FaceAreas t (part at.totals at.volumes reals)
  pub volumes : at.bodies ≡ true → Volumes t (part at.volumes at.boxes reals)

-- the body of a file's part stands in the scratch: what every later stage requires
pub record Standing (s : List ℕ) (at : Regions) (words : List ℕ) (reals : List Float) : Type 0 where
  pub placed : Placed s at
  pub words_room : at.words ≤ length words
  pub reals_room : at.reals ≤ length reals
  pub the_words : Words (part_of s) at words
  pub the_reals : Reals (part_of s) at reals
  -- of document 02, item 7: "Bring back a tree of boxes, at most 8 polygons in a leaf"
  pub tree : scanned < at.polygons → PartTree (part_of s) (part at.boxes at.falling reals) (part at.tree at.sides words)
