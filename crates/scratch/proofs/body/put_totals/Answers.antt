-- `scratch::body::put_totals` meets its contract: past the areas of the faces nothing changes.
use mathlib.Core.Path.{◌≡◌, ◌∙◌}
use Prim.Native.Nat.{◌+◌, ◌-◌, ◌≤◌, ◌<◌}
use lib.ListN.{length, get_or}
use lib.Ieee.{nan}
use Rattle.list_laws.specs.Region.{part, Outside}
use Rattle.list_laws.proofs.Regions.{part_length}
use Rattle.list_laws.proofs.Outside.{outside_none, outside_then}
use Rattle.file_part.specs.Part.{part_of}
use Rattle.solid_faces.specs.Faces.{face_number}
use Rattle.solid_faces.proofs.BodyLaws.{checked_number}
use Rattle.solid_faces.proofs.KeptLaws.{sums_all}
use Rattle.scratch.proofs.StandingLaws.{placed_polygons}
use Rattle.scratch.proofs.WordsLaws.{face_at_lem}
use Rattle.scratch.proofs.RealsLaws.{area_at, there_outside, there_none, there_more}
use native.Mathlib.Omega.{arith}
use Rattle.scratch.proofs.body.put_totals.Goals as goal

pub loop-q-init : goal.loop-q-init
loop-q-init c =
    let filled-long : length c.fill.new.cells ≡ c.args.at.volumes - c.args.at.totals = c.fill.auto.cells ∙ part_length c.args.at.totals c.args.at.volumes c.args.reals.now (omega (arith, c.requires.placed_1.laid, c.requires.reals_in_bounds_1)) in (outside_none nan _ _ _, there_none _ c.args.at c.requires.placed_1.laid c.args.reals.now c.fill.new.cells c.requires.reals_in_bounds_1 filled-long (length (part c.args.at.totals c.args.at.volumes c.args.reals.now)) c.fill.ensures)

pub add_area-requires : goal.add_area-requires
add_area-requires c =
    let filled-long : length c.fill.new.cells ≡ c.args.at.volumes - c.args.at.totals = c.fill.auto.cells ∙ part_length c.args.at.totals c.args.at.volumes c.args.reals.now (omega (arith, c.requires.placed_1.laid, c.requires.reals_in_bounds_1)) in
    let since : Outside nan c.args.at.totals c.args.at.volumes c.args.reals.now c.loop-q.reals = outside_then nan _ _ c.args.reals.now _ c.loop-q.reals
    (there_outside (part_of c.args.file.now) c.args.at c.requires.placed_1.laid c.args.reals.now c.fill.new.cells c.requires.reals_in_bounds_1 filled-long) c.loop-q.invariant.0 in
    let number : get_or c.args.words.now (c.args.at.faces + c.loop-q.q) 0 ≡ face_number (part_of c.args.file.now) c.loop-q.q = face_at_lem _ c.args.at c.args.words.now c.loop-q.q c.requires.placed_1.laid c.requires.placed_3 (placed_polygons _ _ c.requires.placed_1) c.loop-q-test.true in
    let small : get_or c.args.words.now (c.args.at.faces + c.loop-q.q) 0 < 1024 = checked_number _ _ _ _ c.requires.placed_1.checked c.requires.placed_1.polygons c.loop-q-test.true number in omega (arith, c.requires.placed_1.laid, small, part_length c.args.at.totals c.args.at.volumes c.loop-q.reals (omega (arith, c.requires.placed_1.laid, c.requires.reals_in_bounds_1, since.long)))

pub loop-q-preserved : goal.loop-q-preserved
loop-q-preserved c =
    let filled-long : length c.fill.new.cells ≡ c.args.at.volumes - c.args.at.totals = c.fill.auto.cells ∙ part_length c.args.at.totals c.args.at.volumes c.args.reals.now (omega (arith, c.requires.placed_1.laid, c.requires.reals_in_bounds_1)) in
    let since : Outside nan c.args.at.totals c.args.at.volumes c.args.reals.now c.loop-q.reals = outside_then nan _ _ c.args.reals.now _ c.loop-q.reals
    (there_outside (part_of c.args.file.now) c.args.at c.requires.placed_1.laid c.args.reals.now c.fill.new.cells c.requires.reals_in_bounds_1 filled-long) c.loop-q.invariant.0 in
    let number : get_or c.args.words.now (c.args.at.faces + c.loop-q.q) 0 ≡ face_number (part_of c.args.file.now) c.loop-q.q = face_at_lem _ c.args.at c.args.words.now c.loop-q.q c.requires.placed_1.laid c.requires.placed_3 (placed_polygons _ _ c.requires.placed_1) c.loop-q-test.true in
    let small : get_or c.args.words.now (c.args.at.faces + c.loop-q.q) 0 < 1024 = checked_number _ _ _ _ c.requires.placed_1.checked c.requires.placed_1.polygons c.loop-q-test.true number in
    let at = c.args.at in
    let laid = c.requires.placed_1.laid in
    let r = c.loop-q.reals in
    let room : at.reals ≤ length r = omega (arith, c.requires.reals_in_bounds_1, since.long) in
    let long = c.add_area.auto.out ∙ part_length at.totals at.volumes r (omega (arith, laid, room)) in
    let area = area_at _ at c.loop-q.q c.args.reals.now r laid c.requires.reals_in_bounds_2 since c.loop-q-test.true in (
      outside_then nan _ _ _ r _ c.loop-q.invariant.0 (there_outside (part_of c.args.file.now) at laid r c.add_area.new.out room long),
      there_more _ at laid r c.add_area.new.out room long c.loop-q.q _ _ small number area c.loop-q.invariant.1 c.add_area.ensures,
    )

pub returns : goal.returns
returns c =
    let filled-long : length c.fill.new.cells ≡ c.args.at.volumes - c.args.at.totals = c.fill.auto.cells ∙ part_length c.args.at.totals c.args.at.volumes c.args.reals.now (omega (arith, c.requires.placed_1.laid, c.requires.reals_in_bounds_1)) in
    let since : Outside nan c.args.at.totals c.args.at.volumes c.args.reals.now c.loop-q.reals = outside_then nan _ _ c.args.reals.now _ c.loop-q.reals
    (there_outside (part_of c.args.file.now) c.args.at c.requires.placed_1.laid c.args.reals.now c.fill.new.cells c.requires.reals_in_bounds_1 filled-long) c.loop-q.invariant.0 in record { totals = sums_all _ c.loop-q.q c.args.at.polygons _ (placed_polygons _ _ c.requires.placed_1) (omega arith) c.loop-q-test.false c.loop-q.invariant.1; kept = since }
