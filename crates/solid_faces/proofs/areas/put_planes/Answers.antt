-- `solid_faces::areas::put_planes` meets its contract.
use Prim.Native.Nat.{◌+◌, ◌*◌, ◌≤◌}
use native.Mathlib.Omega.{arith}
use lib.ListN.{length}
use Rattle.file_ok.specs.Work.{Readable}
use Rattle.solid_polygon.specs.Work.{Corners}
use Rattle.solid_faces.proofs.BodyLaws.{readable_long, EntryRoom, entry_room, RunRoom, run_room, run_corners, run_plane, checked_readable}
use Rattle.solid_faces.proofs.KeptLaws.{planes_more}
use Rattle.solid_faces.proofs.areas.put_planes.Goals as goal

pub vertex_count-vertices-requires : goal.vertex_count-vertices-requires
vertex_count-vertices-requires c = readable_long _ (checked_readable _ c.requires.fact_1)

pub polygon_count-polygons-requires : goal.polygon_count-polygons-requires
polygon_count-polygons-requires c = readable_long _ (checked_readable _ c.requires.fact_1)

pub entry_at-at-requires : goal.entry_at-at-requires
entry_at-at-requires c =
    let readable : Readable c.args.file.now = checked_readable _ c.requires.fact_1 in
    let entry : EntryRoom c.args.file.now c.vertex_count-vertices.result c.loop-p.p = entry_room _ _ _ _ readable c.vertex_count-vertices.ensures c.polygon_count-polygons.ensures c.loop-p-test.true in (entry.vertices, entry.polygon)

pub first_vertex-requires : goal.first_vertex-requires
first_vertex-requires c =
    let readable : Readable c.args.file.now = checked_readable _ c.requires.fact_1 in
    let entry : EntryRoom c.args.file.now c.vertex_count-vertices.result c.loop-p.p = entry_room _ _ _ _ readable c.vertex_count-vertices.ensures c.polygon_count-polygons.ensures c.loop-p-test.true in rw c.entry_at-at.ensures entry.inside

pub run_length-requires : goal.run_length-requires
run_length-requires c =
    let readable : Readable c.args.file.now = checked_readable _ c.requires.fact_1 in
    let entry : EntryRoom c.args.file.now c.vertex_count-vertices.result c.loop-p.p = entry_room _ _ _ _ readable c.vertex_count-vertices.ensures c.polygon_count-polygons.ensures c.loop-p-test.true in rw c.entry_at-at.ensures entry.inside

pub new-requires : goal.new-requires
new-requires c =
    let readable : Readable c.args.file.now = checked_readable _ c.requires.fact_1 in
    let run : RunRoom c.args.file.now c.first_vertex.result c.run_length.result = let place = c.entry_at-at.ensures in
    run_room _ _ _ _ _ _ readable c.vertex_count-vertices.ensures c.polygon_count-polygons.ensures c.loop-p-test.true
    (rw place at c.first_vertex.ensures) (rw place at c.run_length.ensures.fact_1) in
    let corners : Corners c.args.file.now c.first_vertex.result c.run_length.result = run_corners _ _ _ _ _ _ _ readable c.vertex_count-vertices.ensures c.polygon_count-polygons.ensures c.loop-p-test.true
    c.entry_at-at.ensures c.first_vertex.ensures c.run_length.ensures.fact_1 in
    record {
      fact_1 = corners;
      fact_2 = omega (arith, run.least);
      fact_3 = run.most;
    }

pub loop-p-preserved : goal.loop-p-preserved
loop-p-preserved c =
    let room : 4 * c.loop-p.p + 4 ≤ length c.loop-p.planes = omega (arith, c.loop-p-test.true, c.polygon_count-polygons.ensures, c.requires.fact_2, c.loop-p.auto.planes) in
    let plane
    = run_plane _ _ _ _ _ _ _ c.vertex_count-vertices.ensures c.entry_at-at.ensures
    c.first_vertex.ensures c.run_length.ensures.fact_1 c.new.ensures in
    (planes_more _ _ _ _ _ room plane c.put_plane.ensures c.loop-p.invariant).0
