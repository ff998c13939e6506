-- `solid_boxes::own::own_box` meets its contract.
use mathlib.Core.Path.{refl}
use native.Mathlib.Omega.{arith}
use Rattle.solid_faces.proofs.BodyLaws.{entry_room, run_room, run_corners, checked_readable}
use Rattle.solid_boxes.proofs.OwnLaws.{own_run}
use Rattle.solid_boxes.proofs.own.own_box.Goals as goal

pub entry_at-entry-requires : goal.entry_at-entry-requires
entry_at-entry-requires c = let e = entry_room _ _ _ _ (checked_readable _ c.requires.fact_1) c.requires.fact_2 refl c.requires.fact_3 in (e.vertices, e.polygon)

pub first_vertex-first-requires : goal.first_vertex-first-requires
first_vertex-first-requires c = rw c.entry_at-entry.ensures (entry_room _ _ _ _ (checked_readable _ c.requires.fact_1) c.requires.fact_2 refl c.requires.fact_3).inside

pub run_length-n-requires : goal.run_length-n-requires
run_length-n-requires c = rw c.entry_at-entry.ensures (entry_room _ _ _ _ (checked_readable _ c.requires.fact_1) c.requires.fact_2 refl c.requires.fact_3).inside

pub run_box-requires : goal.run_box-requires
run_box-requires c =
    let readable = checked_readable _ c.requires.fact_1 in
    let place = c.entry_at-entry.ensures in
    let first = c.first_vertex-first.ensures in
    let count = c.run_length-n.ensures.fact_1 in
    let r = run_room _ _ _ _ _ _ readable c.requires.fact_2 refl c.requires.fact_3 (rw place at first) (rw place at count) in
    record {
      fact_1 = run_corners _ _ _ _ _ _ _ readable c.requires.fact_2 refl c.requires.fact_3 place first count;
      fact_2 = omega (arith, r.least);
    }

pub returns : goal.returns
returns c = own_run _ _ _ _ _ _ _ c.requires.fact_2 c.entry_at-entry.ensures c.first_vertex-first.ensures c.run_length-n.ensures.fact_1 c.run_box.ensures
