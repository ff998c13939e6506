-- `solid_bodies::corner::put_owners` meets its contract.
use Prim.Native.Nat.{◌+◌, ◌≤◌, ◌<◌}
use native.Mathlib.Omega.{arith}
use mathlib.Core.Path.{◌∙◌}
use lib.ListN.{length}
use Rattle.file_part.specs.Layout.{polygon_count_of}
use Rattle.file_ok.proofs.PolygonLaws.{start_none}
use Rattle.file_ok.proofs.ReadableLaws.{readable_length, readable_counts}
use Rattle.solid_bodies.proofs.CornerLaws.{run_end, owned_none, owned_more, owned_all}
use Rattle.solid_bodies.proofs.corner.put_owners.Goals as goal

pub polygon_count-polygons-requires : goal.polygon_count-polygons-requires
polygon_count-polygons-requires c = omega (arith, readable_length _ c.requires.fact_1)

pub loop-p-init : goal.loop-p-init
loop-p-init c =
    let s = c.args in
    owned_none s.file.now s.corners.now _ (start_none _ _)

pub entry_at-at-requires : goal.entry_at-at-requires
entry_at-at-requires c =
    let known : c.loop-p.p < polygon_count_of c.args.file.now = omega (arith, c.loop-p-test.true, c.polygon_count-polygons.ensures) in
    let few : (c.args.n ≤ 16384) × (c.loop-p.p ≤ 4096) = let counts = readable_counts _ c.requires.fact_1 in
    (omega (arith, counts.0, c.requires.fact_2), omega (arith, counts.1, known)) in few

pub first_vertex-first-requires : goal.first_vertex-first-requires
first_vertex-first-requires c =
    let known : c.loop-p.p < polygon_count_of c.args.file.now = omega (arith, c.loop-p-test.true, c.polygon_count-polygons.ensures) in
    let room : c.entry_at-at.result + 80 ≤ length c.args.file.now = omega (arith, c.entry_at-at.ensures, known, readable_length _ c.requires.fact_1, c.requires.fact_2) in room

pub run_length-requires : goal.run_length-requires
run_length-requires c =
    let known : c.loop-p.p < polygon_count_of c.args.file.now = omega (arith, c.loop-p-test.true, c.polygon_count-polygons.ensures) in
    let room : c.entry_at-at.result + 80 ≤ length c.args.file.now = omega (arith, c.entry_at-at.ensures, known, readable_length _ c.requires.fact_1, c.requires.fact_2) in room

pub overflow_add-end : goal.overflow_add-end
overflow_add-end c =
    let known : c.loop-p.p < polygon_count_of c.args.file.now = omega (arith, c.loop-p-test.true, c.polygon_count-polygons.ensures) in
    let few : (c.args.n ≤ 16384) × (c.loop-p.p ≤ 4096) = let counts = readable_counts _ c.requires.fact_1 in
    (omega (arith, counts.0, c.requires.fact_2), omega (arith, counts.1, known)) in
    let ends : c.first_vertex-first.result + c.run_length.result ≤ c.args.n = run_end c.args.file.now c.args.n c.loop-p.p c.entry_at-at.result c.first_vertex-first.result c.run_length.result c.loop-p.corners
    c.requires.fact_1 c.requires.fact_2 known c.entry_at-at.ensures c.first_vertex-first.ensures c.run_length.ensures.fact_1
    (c.loop-p.auto.corners ∙ c.requires.fact_3) in omega (arith, ends, few.0)

pub offset_bounds-corners-first : goal.offset_bounds-corners-first
offset_bounds-corners-first c =
    let known : c.loop-p.p < polygon_count_of c.args.file.now = omega (arith, c.loop-p-test.true, c.polygon_count-polygons.ensures) in
    let few : (c.args.n ≤ 16384) × (c.loop-p.p ≤ 4096) = let counts = readable_counts _ c.requires.fact_1 in
    (omega (arith, counts.0, c.requires.fact_2), omega (arith, counts.1, known)) in
    let ends : c.first_vertex-first.result + c.run_length.result ≤ c.args.n = run_end c.args.file.now c.args.n c.loop-p.p c.entry_at-at.result c.first_vertex-first.result c.run_length.result c.loop-p.corners
    c.requires.fact_1 c.requires.fact_2 known c.entry_at-at.ensures c.first_vertex-first.ensures c.run_length.ensures.fact_1
    (c.loop-p.auto.corners ∙ c.requires.fact_3) in omega (arith, ends, few.0)

pub slice_bounds-fill-end : goal.slice_bounds-fill-end
slice_bounds-fill-end c =
    let known : c.loop-p.p < polygon_count_of c.args.file.now = omega (arith, c.loop-p-test.true, c.polygon_count-polygons.ensures) in
    let ends : c.first_vertex-first.result + c.run_length.result ≤ c.args.n = run_end c.args.file.now c.args.n c.loop-p.p c.entry_at-at.result c.first_vertex-first.result c.run_length.result c.loop-p.corners
    c.requires.fact_1 c.requires.fact_2 known c.entry_at-at.ensures c.first_vertex-first.ensures c.run_length.ensures.fact_1
    (c.loop-p.auto.corners ∙ c.requires.fact_3) in
    omega (arith, ends, c.loop-p.auto.corners, c.requires.fact_3)

pub overflow_cast-p : goal.overflow_cast-p
overflow_cast-p c =
    let known : c.loop-p.p < polygon_count_of c.args.file.now = omega (arith, c.loop-p-test.true, c.polygon_count-polygons.ensures) in
    let few : (c.args.n ≤ 16384) × (c.loop-p.p ≤ 4096) = let counts = readable_counts _ c.requires.fact_1 in
    (omega (arith, counts.0, c.requires.fact_2), omega (arith, counts.1, known)) in omega (arith, few.1)

pub loop-p-preserved : goal.loop-p-preserved
loop-p-preserved c =
    let known : c.loop-p.p < polygon_count_of c.args.file.now = omega (arith, c.loop-p-test.true, c.polygon_count-polygons.ensures) in
    owned_more c.args.file.now c.args.n c.loop-p.p c.entry_at-at.result c.first_vertex-first.result c.run_length.result c.loop-p.corners
    c.requires.fact_1 c.requires.fact_2 known c.entry_at-at.ensures c.first_vertex-first.ensures c.run_length.ensures.fact_1 (c.loop-p.auto.corners ∙ c.requires.fact_3)
    c.fill.new.cells c.fill.ensures c.loop-p.invariant

pub returns : goal.returns
returns c =
    owned_all c.args.file.now c.loop-p.corners c.args.n c.loop-p.p c.requires.fact_1 c.requires.fact_2
    (omega arith) c.loop-p.invariant
