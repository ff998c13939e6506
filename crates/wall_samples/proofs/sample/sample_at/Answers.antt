-- `wall_samples::sample::sample_at` meets its contract.
use mathlib.Core.Path.{refl}
use lib.ListN.{get_or}
use Prim.Native.Nat.{◌<◌, ◌+◌}
use Rattle.wall_samples.proofs.CastLaws.{plane_room}
use Rattle.wall_samples.proofs.ReadingLaws.{place_below, start_below, hit_below, sample_is}
use native.Mathlib.Omega.{arith}
use Rattle.wall_samples.proofs.sample.sample_at.Goals as goal

pub overflow_add-q : goal.overflow_add-q
overflow_add-q c =
    let few : c.args.k < c.args.at.polygons = place_below _ _ _ _ c.requires.standing c.requires.readings_1 _ c.requires.readings_2 in
    omega (arith, few, c.requires.standing)

pub offset_bounds-words-at : goal.offset_bounds-words-at
offset_bounds-words-at c =
    let few : c.args.k < c.args.at.polygons = place_below _ _ _ _ c.requires.standing c.requires.readings_1 _ c.requires.readings_2 in
    omega (arith, few, c.requires.standing)

pub bounds-words-at : goal.bounds-words-at
bounds-words-at c =
    let few : c.args.k < c.args.at.polygons = place_below _ _ _ _ c.requires.standing c.requires.readings_1 _ c.requires.readings_2 in
    omega (arith, few, c.requires.standing)

pub overflow_add-hit : goal.overflow_add-hit
overflow_add-hit c =
    let few : c.args.k < c.args.at.polygons = place_below _ _ _ _ c.requires.standing c.requires.readings_1 _ c.requires.readings_2 in
    omega (arith, few, c.requires.standing)

pub offset_bounds-words-at-2 : goal.offset_bounds-words-at-2
offset_bounds-words-at-2 c =
    let few : c.args.k < c.args.at.polygons = place_below _ _ _ _ c.requires.standing c.requires.readings_1 _ c.requires.readings_2 in
    omega (arith, few, c.requires.standing)

pub bounds-words-at-2 : goal.bounds-words-at-2
bounds-words-at-2 c =
    let few : c.args.k < c.args.at.polygons = place_below _ _ _ _ c.requires.standing c.requires.readings_1 _ c.requires.readings_2 in
    omega (arith, few, c.requires.standing)

pub plane_at-plane-requires : goal.plane_at-plane-requires
plane_at-plane-requires c =
    let start : get_or c.args.words.now (c.args.at.readings + c.args.k) 0 < c.args.at.polygons = start_below _ _ _ _ c.requires.standing c.requires.readings_1 _ c.requires.readings_2 _ refl in plane_room _ _ _ _ c.requires.standing _ start

pub overflow_add-result : goal.overflow_add-result
overflow_add-result c =
    let start : get_or c.args.words.now (c.args.at.readings + c.args.k) 0 < c.args.at.polygons = start_below _ _ _ _ c.requires.standing c.requires.readings_1 _ c.requires.readings_2 _ refl in omega (arith, start, c.requires.standing)

pub offset_bounds-words-at-3 : goal.offset_bounds-words-at-3
offset_bounds-words-at-3 c =
    let start : get_or c.args.words.now (c.args.at.readings + c.args.k) 0 < c.args.at.polygons = start_below _ _ _ _ c.requires.standing c.requires.readings_1 _ c.requires.readings_2 _ refl in omega (arith, start, c.requires.standing)

pub bounds-words-at-3 : goal.bounds-words-at-3
bounds-words-at-3 c =
    let start : get_or c.args.words.now (c.args.at.readings + c.args.k) 0 < c.args.at.polygons = start_below _ _ _ _ c.requires.standing c.requires.readings_1 _ c.requires.readings_2 _ refl in omega (arith, start, c.requires.standing)

pub overflow_add-result-2 : goal.overflow_add-result-2
overflow_add-result-2 c =
    let hit : get_or c.args.words.now (c.args.at.hits + c.args.k) 0 < c.args.at.polygons = hit_below _ _ _ _ c.requires.standing c.requires.readings_1 _ c.requires.readings_2 _ refl in omega (arith, hit, c.requires.standing)

pub offset_bounds-words-at-4 : goal.offset_bounds-words-at-4
offset_bounds-words-at-4 c =
    let hit : get_or c.args.words.now (c.args.at.hits + c.args.k) 0 < c.args.at.polygons = hit_below _ _ _ _ c.requires.standing c.requires.readings_1 _ c.requires.readings_2 _ refl in omega (arith, hit, c.requires.standing)

pub bounds-words-at-4 : goal.bounds-words-at-4
bounds-words-at-4 c =
    let hit : get_or c.args.words.now (c.args.at.hits + c.args.k) 0 < c.args.at.polygons = hit_below _ _ _ _ c.requires.standing c.requires.readings_1 _ c.requires.readings_2 _ refl in omega (arith, hit, c.requires.standing)

pub overflow_add-result-3 : goal.overflow_add-result-3
overflow_add-result-3 c =
    let few : c.args.k < c.args.at.polygons = place_below _ _ _ _ c.requires.standing c.requires.readings_1 _ c.requires.readings_2 in
    omega (arith, few, c.requires.standing)

pub offset_bounds-reals-at : goal.offset_bounds-reals-at
offset_bounds-reals-at c =
    let few : c.args.k < c.args.at.polygons = place_below _ _ _ _ c.requires.standing c.requires.readings_1 _ c.requires.readings_2 in
    omega (arith, few, c.requires.standing)

pub bounds-reals-at : goal.bounds-reals-at
bounds-reals-at c =
    let few : c.args.k < c.args.at.polygons = place_below _ _ _ _ c.requires.standing c.requires.readings_1 _ c.requires.readings_2 in
    omega (arith, few, c.requires.standing)

pub overflow_add-result-4 : goal.overflow_add-result-4
overflow_add-result-4 c =
    let few : c.args.k < c.args.at.polygons = place_below _ _ _ _ c.requires.standing c.requires.readings_1 _ c.requires.readings_2 in
    omega (arith, few, c.requires.standing)

pub offset_bounds-reals-at-2 : goal.offset_bounds-reals-at-2
offset_bounds-reals-at-2 c =
    let few : c.args.k < c.args.at.polygons = place_below _ _ _ _ c.requires.standing c.requires.readings_1 _ c.requires.readings_2 in
    omega (arith, few, c.requires.standing)

pub bounds-reals-at-2 : goal.bounds-reals-at-2
bounds-reals-at-2 c =
    let few : c.args.k < c.args.at.polygons = place_below _ _ _ _ c.requires.standing c.requires.readings_1 _ c.requires.readings_2 in
    omega (arith, few, c.requires.standing)

pub centroid_of-requires : goal.centroid_of-requires
centroid_of-requires c =
    let start : get_or c.args.words.now (c.args.at.readings + c.args.k) 0 < c.args.at.polygons = start_below _ _ _ _ c.requires.standing c.requires.readings_1 _ c.requires.readings_2 _ refl in
    record {
      fact_1 = c.requires.standing.placed.checked;
      fact_2 = c.requires.standing.placed.vertices;
      fact_3 = omega (arith, start, c.requires.standing);
    }

pub returns : goal.returns
returns c =
    sample_is _ _ _ _ c.requires.standing c.requires.readings_1 _ c.requires.readings_2 _ _ _ _ _ _ refl refl refl refl c.centroid_of.ensures c.plane_at-plane.ensures
