-- `wall_ray::attempt::try_one` meets its contract.
use mathlib.Core.Path.{◌≡◌, refl, ◌∙◌}
use native.Mathlib.Omega.{arith}
use Rattle.file_part.specs.Part.{part_of}
use Rattle.solid_polygon.specs.Work.{Corners}
use Rattle.solid_faces.specs.Faces.{polygon_plane}
use Rattle.solid_faces.proofs.BodyLaws.{EntryRoom, entry_room, run_room, run_corners, checked_readable}
use Rattle.wall_ray.specs.Work.{comes}
use Rattle.wall_ray.proofs.StruckLaws.{is_time, off_plane, outside, unreached, taken}
use Rattle.wall_ray.proofs.TryLaws.{try_leaves, try_takes}
use Rattle.wall_ray.proofs.attempt.try_one.Goals as goal

pub plane_at-plane-requires : goal.plane_at-plane-requires
plane_at-plane-requires c = omega (arith, c.requires.checked_2.long, c.requires.vertices_value_3)

pub time-t-requires : goal.time-t-requires
time-t-requires c = c.dot-denom.ensures

pub returns-then-not-is_next : goal.returns-then-not-is_next
returns-then-not-is_next c =
    let kept : c.plane_at-plane.result ≡ polygon_plane (part_of c.args.file.now) c.args.p = c.plane_at-plane.ensures ∙ c.requires.checked_2.each _ c.requires.vertices_value_3 in
    try_leaves _ _ _ _
    (off_plane _ _ _ _ _ _ (comes _ _) _ kept c.dot-denom.ensures c.time-t.ensures c.is_next.ensures c.if-not-is_next.true)

pub entry_at-entry-requires : goal.entry_at-entry-requires
entry_at-entry-requires c =
    let entry : EntryRoom c.args.file.now c.args.vertices c.args.p = entry_room _ _ _ _ (checked_readable _ c.requires.checked_1) c.requires.vertices_value_1 refl c.requires.vertices_value_3 in let e = entry in (e.vertices, e.polygon)

pub first_vertex-first-requires : goal.first_vertex-first-requires
first_vertex-first-requires c =
    let entry : EntryRoom c.args.file.now c.args.vertices c.args.p = entry_room _ _ _ _ (checked_readable _ c.requires.checked_1) c.requires.vertices_value_1 refl c.requires.vertices_value_3 in rw c.entry_at-entry.ensures entry.inside

pub run_length-n-requires : goal.run_length-n-requires
run_length-n-requires c =
    let entry : EntryRoom c.args.file.now c.args.vertices c.args.p = entry_room _ _ _ _ (checked_readable _ c.requires.checked_1) c.requires.vertices_value_1 refl c.requires.vertices_value_3 in rw c.entry_at-entry.ensures entry.inside

pub is_inside-requires : goal.is_inside-requires
is_inside-requires c =
    let corners : Corners c.args.file.now c.first_vertex-first.result c.run_length-n.result = run_corners _ _ _ _ _ _ _ (checked_readable _ c.requires.checked_1) c.requires.vertices_value_1 refl c.requires.vertices_value_3
    c.entry_at-entry.ensures c.first_vertex-first.ensures c.run_length-n.ensures.fact_1 in corners

pub returns-then-not-is_inside : goal.returns-then-not-is_inside
returns-then-not-is_inside c =
    let kept : c.plane_at-plane.result ≡ polygon_plane (part_of c.args.file.now) c.args.p = c.plane_at-plane.ensures ∙ c.requires.checked_2.each _ c.requires.vertices_value_3 in
    try_leaves _ _ _ _
    (outside _ _ _ _ _ _ (comes _ _) _ kept c.dot-denom.ensures c.time-t.ensures c.is_next.ensures
    _ _ _ _ _ c.requires.vertices_value_1 c.entry_at-entry.ensures c.first_vertex-first.ensures c.run_length-n.ensures.fact_1
    c.point-q.ensures _ c.is_inside.ensures c.if-not-is_inside.true)

pub is_run_reached-requires : goal.is_run_reached-requires
is_run_reached-requires c =
    let corners : Corners c.args.file.now c.first_vertex-first.result c.run_length-n.result = run_corners _ _ _ _ _ _ _ (checked_readable _ c.requires.checked_1) c.requires.vertices_value_1 refl c.requires.vertices_value_3
    c.entry_at-entry.ensures c.first_vertex-first.ensures c.run_length-n.ensures.fact_1 in
    let r = run_room _ _ _ _ _ _ (checked_readable _ c.requires.checked_1) c.requires.vertices_value_1 refl c.requires.vertices_value_3
    (rw c.entry_at-entry.ensures at c.first_vertex-first.ensures) (rw c.entry_at-entry.ensures at c.run_length-n.ensures.fact_1) in
    record {
      fact_1 = corners;
      fact_2 = omega (arith, r.least);
    }

pub returns-then-not-is_run_reached : goal.returns-then-not-is_run_reached
returns-then-not-is_run_reached c =
    let kept : c.plane_at-plane.result ≡ polygon_plane (part_of c.args.file.now) c.args.p = c.plane_at-plane.ensures ∙ c.requires.checked_2.each _ c.requires.vertices_value_3 in
    try_leaves _ _ _ _
    (unreached _ _ _ _ _ _ (comes _ _) _ kept c.dot-denom.ensures c.time-t.ensures c.is_next.ensures
    _ _ _ _ _ c.requires.vertices_value_1 c.entry_at-entry.ensures c.first_vertex-first.ensures c.run_length-n.ensures.fact_1
    c.point-q.ensures _ c.is_inside.ensures _ _ c.requires.vertices_value_2 c.is_run_reached.ensures
    c.if-not-is_run_reached.true)

pub returns : goal.returns
returns c =
    let kept : c.plane_at-plane.result ≡ polygon_plane (part_of c.args.file.now) c.args.p = c.plane_at-plane.ensures ∙ c.requires.checked_2.each _ c.requires.vertices_value_3 in
    try_takes _ _ _ _ _ (is_time _ _ _ _ _ _ (comes _ _) _ kept c.dot-denom.ensures c.time-t.ensures c.is_next.ensures)
    (taken _ _ _ _ _ _ (comes _ _) _ kept c.dot-denom.ensures c.time-t.ensures c.is_next.ensures
    _ _ _ _ _ c.requires.vertices_value_1 c.entry_at-entry.ensures c.first_vertex-first.ensures c.run_length-n.ensures.fact_1
    c.point-q.ensures _ c.is_inside.ensures _ _ c.requires.vertices_value_2 c.is_run_reached.ensures
    c.if-not-is_next.false c.if-not-is_inside.false c.if-not-is_run_reached.false)
