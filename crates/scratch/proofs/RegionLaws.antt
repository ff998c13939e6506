-- A struct whose regions are laid out is the one of its counts, and of what is asked for.
use mathlib.Core.Path.{◌≡◌}
use Prim.Native.Nat.{◌+◌, ◌*◌}
use native.Mathlib.Omega.{arith}
use Rattle.scratch.specs.declared.regions.Regions.{Regions}
use Rattle.scratch.specs.Regions.{Laid}
use Rattle.scratch.specs.Work.{regions_of}

pub only_regions : (at : Regions) → Laid at → at ≡ regions_of at.polygons at.vertices at.segments at.bodies
unfolding regions_of
only_regions at laid = rw (
  is_tree,
  is_sides,
  is_items,
  is_sorted,
  is_chain,
  is_work,
  is_faces,
  is_firsts,
  is_readings,
  is_hits,
  is_order,
  is_kinds,
  is_ranks,
  is_words,
  is_areas,
  is_totals,
  is_volumes,
  is_boxes,
  is_falling,
  is_thickness,
  is_weights,
  is_rounds,
  is_directions,
  is_free,
  is_reals,
)
  where
    is_tree : at.tree ≡ at.polygons
    is_tree = omega (arith, laid)

    is_sides : at.sides ≡ 5 * at.polygons
    is_sides = omega (arith, laid)

    is_items : at.items ≡ 5 * at.polygons + 3 * at.vertices
    is_items = omega (arith, laid)

    is_sorted : at.sorted ≡ 5 * at.polygons + 4 * at.vertices
    is_sorted = omega (arith, laid)

    is_chain : at.chain ≡ 5 * at.polygons + 6 * at.vertices
    is_chain = omega (arith, laid)

    is_work : at.work ≡ at.polygons + 6 * at.vertices
    is_work = omega (arith, laid)

    is_faces : at.faces ≡ 5 * at.polygons + 8 * at.vertices
    is_faces = omega (arith, laid)

    is_firsts : at.firsts ≡ 6 * at.polygons + 8 * at.vertices
    is_firsts = omega (arith, laid)

    is_readings : at.readings ≡ 6 * at.polygons + 8 * at.vertices + 1024
    is_readings = omega (arith, laid)

    is_hits : at.hits ≡ 7 * at.polygons + 8 * at.vertices + 1024
    is_hits = omega (arith, laid)

    is_order : at.order ≡ 8 * at.polygons + 8 * at.vertices + 1024
    is_order = omega (arith, laid)

    is_kinds : at.kinds ≡ 10 * at.polygons + 8 * at.vertices + 1024
    is_kinds = omega (arith, laid)

    is_ranks : at.ranks ≡ 11 * at.polygons + 8 * at.vertices + 1024
    is_ranks = omega (arith, laid)

    is_words : at.words ≡ 12 * at.polygons + 8 * at.vertices + 1024
    is_words = omega (arith, laid)

    is_areas : at.areas ≡ 4 * at.polygons
    is_areas = omega (arith, laid)

    is_totals : at.totals ≡ 5 * at.polygons
    is_totals = omega (arith, laid)

    is_volumes : at.volumes ≡ 5 * at.polygons + 1024
    is_volumes = omega (arith, laid)

    is_boxes : at.boxes ≡ 6 * at.polygons + 1024
    is_boxes = omega (arith, laid)

    is_falling : at.falling ≡ 14 * at.polygons + 1024
    is_falling = omega (arith, laid)

    is_thickness : at.thickness ≡ 15 * at.polygons + 1024
    is_thickness = omega (arith, laid)

    is_weights : at.weights ≡ 16 * at.polygons + 1024
    is_weights = omega (arith, laid)

    is_rounds : at.rounds ≡ 17 * at.polygons + 1024
    is_rounds = omega (arith, laid)

    is_directions : at.directions ≡ 24 * at.polygons + 1024
    is_directions = omega (arith, laid)

    is_free : at.free ≡ 24 * at.polygons + at.vertices + 1024
    is_free = omega (arith, laid)

    is_reals : at.reals ≡ 24 * at.polygons + 8 * at.vertices + 2048
    is_reals = omega (arith, laid)
