-- `solid_faces::verdict::any_flat` meets its contract.
use mathlib.Core.Path.{◌≡◌}
use native.Mathlib.Omega.{arith}
use Rattle.solid_polygon.specs.file_part.specs.Part.{part_of}
use Rattle.file_ok.specs.Work.{Readable}
use Rattle.solid_polygon.specs.Work.{Corners}
use Rattle.solid_faces.specs.Faces.{polygon_flat}
use Rattle.solid_faces.proofs.BodyLaws.{readable_long, EntryRoom, entry_room, RunRoom, run_room, run_corners, run_flat, polygons_are, flat_none, flat_more, flat_found, flat_all}
use Rattle.solid_faces.proofs.verdict.any_flat.Goals as goal

pub vertex_count-vertices-requires : goal.vertex_count-vertices-requires
vertex_count-vertices-requires c = readable_long _ c.requires

pub polygon_count-polygons-requires : goal.polygon_count-polygons-requires
polygon_count-polygons-requires c = readable_long _ c.requires

pub loop-p-init : goal.loop-p-init
loop-p-init c = flat_none _

pub entry_at-at-requires : goal.entry_at-at-requires
entry_at-at-requires c =
    let readable : Readable c.args.file.now = c.requires in
    let entry : EntryRoom c.args.file.now c.vertex_count-vertices.result c.loop-p.p = entry_room _ _ _ _ readable c.vertex_count-vertices.ensures c.polygon_count-polygons.ensures c.loop-p-test.true in (entry.vertices, entry.polygon)

pub first_vertex-requires : goal.first_vertex-requires
first_vertex-requires c =
    let readable : Readable c.args.file.now = c.requires in
    let entry : EntryRoom c.args.file.now c.vertex_count-vertices.result c.loop-p.p = entry_room _ _ _ _ readable c.vertex_count-vertices.ensures c.polygon_count-polygons.ensures c.loop-p-test.true in rw c.entry_at-at.ensures entry.inside

pub run_length-requires : goal.run_length-requires
run_length-requires c =
    let readable : Readable c.args.file.now = c.requires in
    let entry : EntryRoom c.args.file.now c.vertex_count-vertices.result c.loop-p.p = entry_room _ _ _ _ readable c.vertex_count-vertices.ensures c.polygon_count-polygons.ensures c.loop-p-test.true in rw c.entry_at-at.ensures entry.inside

pub is_flat-requires : goal.is_flat-requires
is_flat-requires c =
    let readable : Readable c.args.file.now = c.requires in
    let run : RunRoom c.args.file.now c.first_vertex.result c.run_length.result = let place = c.entry_at-at.ensures in
    run_room _ _ _ _ _ _ readable c.vertex_count-vertices.ensures c.polygon_count-polygons.ensures c.loop-p-test.true
    (rw place at c.first_vertex.ensures) (rw place at c.run_length.ensures.fact_1) in
    let corners : Corners c.args.file.now c.first_vertex.result c.run_length.result = run_corners _ _ _ _ _ _ _ readable c.vertex_count-vertices.ensures c.polygon_count-polygons.ensures c.loop-p-test.true
    c.entry_at-at.ensures c.first_vertex.ensures c.run_length.ensures.fact_1 in
    record {
      fact_1 = corners;
      fact_2 = omega (arith, run.least);
    }

pub returns-then-is_flat : goal.returns-then-is_flat
returns-then-is_flat c =
    let flat : c.is_flat.result ≡ polygon_flat (part_of c.args.file.now) c.loop-p.p = run_flat _ _ _ _ _ _ _ c.vertex_count-vertices.ensures c.entry_at-at.ensures
    c.first_vertex.ensures c.run_length.ensures.fact_1 c.is_flat.ensures in
    flat_found _ _ _ _ (polygons_are _ _ c.polygon_count-polygons.ensures) c.loop-p-test.true flat c.if-is_flat.true

pub loop-p-preserved : goal.loop-p-preserved
loop-p-preserved c =
    let flat : c.is_flat.result ≡ polygon_flat (part_of c.args.file.now) c.loop-p.p = run_flat _ _ _ _ _ _ _ c.vertex_count-vertices.ensures c.entry_at-at.ensures
    c.first_vertex.ensures c.run_length.ensures.fact_1 c.is_flat.ensures in
    flat_more _ _ _ flat c.if-is_flat.false c.loop-p.invariant

pub returns : goal.returns
returns c =
    flat_all _ _ _ (polygons_are _ _ c.polygon_count-polygons.ensures) c.loop-p.auto.p-end c.loop-p-test.false c.loop-p.invariant
