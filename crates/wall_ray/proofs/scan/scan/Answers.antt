-- `wall_ray::scan::scan` meets its contract.
use mathlib.Core.Path.{◌≡◌, refl, ◌∙◌}
use native.Mathlib.Omega.{arith}
use Rattle.list_laws.proofs.Below.{all_none}
use Rattle.file_part.specs.Part.{part_of}
use Rattle.file_ok.specs.Work.{Readable}
use Rattle.solid_faces.specs.Faces.{polygon_plane}
use Rattle.solid_faces.proofs.BodyLaws.{readable_long, EntryRoom, entry_room, run_room, run_corners, polygons_are, checked_readable}
use Rattle.solid_polygon.specs.Work.{Corners}
use Rattle.wall_ray.specs.Nearest.{improves}
use Rattle.wall_ray.proofs.StruckLaws.{sides_more, side_fails, sides_all, is_time, off_plane, outside, unreached, taken}
use Rattle.wall_ray.proofs.ScanLaws.{scan_none, scan_all, best_skip, best_take}
use Rattle.wall_ray.proofs.scan.scan.Goals as goal

pub vertex_count-vertices-requires : goal.vertex_count-vertices-requires
vertex_count-vertices-requires c = readable_long _ (checked_readable _ c.requires.fact_1)

pub polygon_count-p-end-requires : goal.polygon_count-p-end-requires
polygon_count-p-end-requires c = readable_long _ (checked_readable _ c.requires.fact_1)

pub next-init : goal.next-init
next-init c = scan_none _ _

pub plane_at-plane-requires : goal.plane_at-plane-requires
plane_at-plane-requires c = omega (arith, c.next-test.true, c.polygon_count-p-end.ensures, c.requires.fact_2.long)

pub time-t-requires : goal.time-t-requires
time-t-requires c = c.dot-denom.ensures

pub next-preserved-then-not-is_reached : goal.next-preserved-then-not-is_reached
next-preserved-then-not-is_reached c =
    let kept : c.plane_at-plane.result ≡ polygon_plane (part_of c.args.file.now) c.next.p = c.plane_at-plane.ensures
    ∙ c.requires.fact_2.each c.next.p (omega (arith, c.next-test.true, c.polygon_count-p-end.ensures)) in
    best_skip _ _ _ _ c.next.invariant
    (off_plane _ _ _ _ _ _ (improves _) _ kept c.dot-denom.ensures c.time-t.ensures c.is_reached.ensures
    c.if-not-is_reached.true)

pub entry_at-entry-requires : goal.entry_at-entry-requires
entry_at-entry-requires c =
    let readable : Readable c.args.file.now = checked_readable _ c.requires.fact_1 in
    let entry : EntryRoom c.args.file.now c.vertex_count-vertices.result c.next.p = entry_room _ _ _ _ readable c.vertex_count-vertices.ensures c.polygon_count-p-end.ensures c.next-test.true in (entry.vertices, entry.polygon)

pub first_vertex-first-requires : goal.first_vertex-first-requires
first_vertex-first-requires c =
    let readable : Readable c.args.file.now = checked_readable _ c.requires.fact_1 in
    let entry : EntryRoom c.args.file.now c.vertex_count-vertices.result c.next.p = entry_room _ _ _ _ readable c.vertex_count-vertices.ensures c.polygon_count-p-end.ensures c.next-test.true in rw c.entry_at-entry.ensures entry.inside

pub run_length-n-requires : goal.run_length-n-requires
run_length-n-requires c =
    let readable : Readable c.args.file.now = checked_readable _ c.requires.fact_1 in
    let entry : EntryRoom c.args.file.now c.vertex_count-vertices.result c.next.p = entry_room _ _ _ _ readable c.vertex_count-vertices.ensures c.polygon_count-p-end.ensures c.next-test.true in rw c.entry_at-entry.ensures entry.inside

pub loop-k-init : goal.loop-k-init
loop-k-init c = all_none _

pub is_within-requires : goal.is_within-requires
is_within-requires c =
    let readable : Readable c.args.file.now = checked_readable _ c.requires.fact_1 in
    let corners : Corners c.args.file.now c.first_vertex-first.result c.run_length-n.result = run_corners _ _ _ _ _ _ _ readable c.vertex_count-vertices.ensures c.polygon_count-p-end.ensures c.next-test.true
    c.entry_at-entry.ensures c.first_vertex-first.ensures c.run_length-n.ensures.fact_1 in
    record {
      fact_1 = corners;
      fact_2 = c.loop-k-test.true;
    }

-- a side fails
pub next-preserved-then-not-is_within : goal.next-preserved-then-not-is_within
next-preserved-then-not-is_within c =
    let kept : c.plane_at-plane.result ≡ polygon_plane (part_of c.args.file.now) c.next.p = c.plane_at-plane.ensures
    ∙ c.requires.fact_2.each c.next.p (omega (arith, c.next-test.true, c.polygon_count-p-end.ensures)) in
    best_skip _ _ _ _ c.next.invariant
    (outside _ _ _ _ _ _ (improves _) _ kept c.dot-denom.ensures c.time-t.ensures c.is_reached.ensures
    _ _ _ _ _ c.vertex_count-vertices.ensures c.entry_at-entry.ensures c.first_vertex-first.ensures
    c.run_length-n.ensures.fact_1 c.point-q.ensures _
    (side_fails _ _ _ _ _ _ c.loop-k-test.true c.is_within.ensures c.if-not-is_within.true) refl)

pub loop-k-preserved : goal.loop-k-preserved
loop-k-preserved c = sides_more _ _ _ _ _ _ c.loop-k.invariant c.is_within.ensures c.if-not-is_within.false

pub is_run_reached-requires : goal.is_run_reached-requires
is_run_reached-requires c =
    let readable : Readable c.args.file.now = checked_readable _ c.requires.fact_1 in
    let corners : Corners c.args.file.now c.first_vertex-first.result c.run_length-n.result = run_corners _ _ _ _ _ _ _ readable c.vertex_count-vertices.ensures c.polygon_count-p-end.ensures c.next-test.true
    c.entry_at-entry.ensures c.first_vertex-first.ensures c.run_length-n.ensures.fact_1 in
    let r = run_room _ _ _ _ _ _ readable c.vertex_count-vertices.ensures c.polygon_count-p-end.ensures c.next-test.true
    (rw c.entry_at-entry.ensures at c.first_vertex-first.ensures) (rw c.entry_at-entry.ensures at c.run_length-n.ensures.fact_1) in
    record {
      fact_1 = corners;
      fact_2 = omega (arith, r.least);
    }

-- its own box fails
pub next-preserved-then-not-is_run_reached : goal.next-preserved-then-not-is_run_reached
next-preserved-then-not-is_run_reached c =
    let kept : c.plane_at-plane.result ≡ polygon_plane (part_of c.args.file.now) c.next.p = c.plane_at-plane.ensures
    ∙ c.requires.fact_2.each c.next.p (omega (arith, c.next-test.true, c.polygon_count-p-end.ensures)) in
    best_skip _ _ _ _ c.next.invariant
    (unreached _ _ _ _ _ _ (improves _) _ kept c.dot-denom.ensures c.time-t.ensures c.is_reached.ensures
    _ _ _ _ _ c.vertex_count-vertices.ensures c.entry_at-entry.ensures c.first_vertex-first.ensures
    c.run_length-n.ensures.fact_1 c.point-q.ensures _ (sides_all _ _ _ _ _ c.loop-k.auto.k-end c.loop-k-test.false c.loop-k.invariant)
    _ _ c.inverse-inv.ensures c.is_run_reached.ensures c.if-not-is_run_reached.true)

-- all tests pass
pub next-preserved : goal.next-preserved
next-preserved c =
    let kept : c.plane_at-plane.result ≡ polygon_plane (part_of c.args.file.now) c.next.p = c.plane_at-plane.ensures
    ∙ c.requires.fact_2.each c.next.p (omega (arith, c.next-test.true, c.polygon_count-p-end.ensures)) in
    best_take _ _ _ _ c.next.invariant _
    (is_time _ _ _ _ _ _ (improves _) _ kept c.dot-denom.ensures c.time-t.ensures c.is_reached.ensures)
    (taken _ _ _ _ _ _ (improves _) _ kept c.dot-denom.ensures c.time-t.ensures c.is_reached.ensures
    _ _ _ _ _ c.vertex_count-vertices.ensures c.entry_at-entry.ensures c.first_vertex-first.ensures
    c.run_length-n.ensures.fact_1 c.point-q.ensures _ (sides_all _ _ _ _ _ c.loop-k.auto.k-end c.loop-k-test.false c.loop-k.invariant)
    _ _ c.inverse-inv.ensures c.is_run_reached.ensures
    c.if-not-is_reached.false refl c.if-not-is_run_reached.false)

pub returns : goal.returns
returns c =
    scan_all _ _ _ _ _ (polygons_are _ _ c.polygon_count-p-end.ensures) c.next.auto.p-end c.next-test.false c.next.invariant
