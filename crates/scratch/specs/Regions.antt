-- The regions of the lent scratch, as numbers of cells. Definitions only.
use Rattle.std.specs.Prelude.{◌≡◌, ℕ, ◌+◌, ◌*◌, ◌≤◌}
use Rattle.scratch.specs.declared.regions.Regions.{Regions}

-- 10: "f64 scratch under 16P + 8V + 2,048 or u32 scratch under 8P + 8V + 1,024"; of document 02, item 7: "Scratch grows by 8P f64 values and 4P u32 values,
-- under refusal 10"
abbrev pub words_needed : ℕ → ℕ → ℕ
words_needed p v = 12 * p + 8 * v + 1024

abbrev pub reals_needed : ℕ → ℕ → ℕ
reals_needed p v = 24 * p + 8 * v + 2048

-- a part of at most so many polygons has no tree: trying each is faster
abbrev pub scanned : ℕ
scanned = 16

-- the regions follow each other, each as long as what stands there needs
pub record Laid (at : Regions) : Type 0 where
  -- as many as an accepted part has at most
  pub few : at.polygons ≤ 4096
  pub short : at.vertices ≤ 16384
  -- ---- u32: from 0 on the body of each polygon, by its lowest polygon, where bodies are put
  -- the tree of boxes, where the part has one: the order of its polygons, the starts and the skips of its nodes
  pub tree : at.tree ≡ at.polygons
  -- three cells a side, where segments are put; while the sides are paired eight cells a side
  pub sides : at.sides ≡ at.tree + 4 * at.polygons
  -- while the bodies are found, before sides and tree are put, their work stands from 0 on to before here
  pub work : at.work ≡ at.polygons + 6 * at.vertices
  -- sides that are put in order, by their places before that ..
  pub items : at.items ≡ at.sides + 3 * at.vertices
  -- .. and the places in order, with as many cells of work
  pub sorted : at.sorted ≡ at.items + at.vertices
  -- the next polygon of the face of each polygon; the cells past those are not used
  pub chain : at.chain ≡ at.sorted + 2 * at.vertices
  -- the face of each polygon
  pub faces : at.faces ≡ at.chain + 2 * at.vertices
  -- the first polygon of each face
  pub firsts : at.firsts ≡ at.faces + at.polygons
  -- the polygon that each thickness reading starts from
  pub readings : at.readings ≡ at.firsts + 1024
  -- the polygon that each reading's ray hits
  pub hits : at.hits ≡ at.readings + at.polygons
  -- the work of sorting: a face's polygons by falling area, readings by thickness or by their pairs of faces, faces by id
  pub order : at.order ≡ at.hits + at.polygons
  -- what each face is as a round: 0 none, 1 convex, 2 concave, 3 a hole
  pub kinds : at.kinds ≡ at.order + 2 * at.polygons
  -- the rank of each face: how many faces have a lower id
  pub ranks : at.ranks ≡ at.kinds + at.polygons
  -- the end
  pub words : at.words ≡ words_needed at.polygons at.vertices
  -- ---- f64: from 0 on four numbers for the plane of each polygon
  -- the area of each polygon
  pub areas : at.areas ≡ 4 * at.polygons
  -- the area of each face
  pub totals : at.totals ≡ at.areas + at.polygons
  -- the volume of each body, at its lowest polygon, where bodies are put
  pub volumes : at.volumes ≡ at.totals + 1024
  -- the boxes of the tree, where the part has one: six numbers for each node
  pub boxes : at.boxes ≡ at.volumes + at.polygons
  -- the area of each polygon, negated: the keys by which polygons go by falling area
  pub falling : at.falling ≡ at.boxes + 8 * at.polygons
  -- the thickness of each reading, and the area of the polygon that it starts from
  pub thickness : at.thickness ≡ at.falling + at.polygons
  pub weights : at.weights ≡ at.thickness + at.polygons
  -- seven numbers for each face that is a round: axis, length and centre
  pub rounds : at.rounds ≡ at.weights + at.polygons
  -- the directions of a round's vertices, of one round at a time
  pub directions : at.directions ≡ at.rounds + 7 * at.polygons
  -- seven numbers for each edge of a sheet in the order of its tours: where it starts, the way to its end and the square of that
  pub free : at.free ≡ at.directions + at.vertices
  -- the end
  pub reals : at.reals ≡ reals_needed at.polygons at.vertices
