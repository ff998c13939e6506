-- `probe::cast::gablemadder_raycast` meets its contract.
use mathlib.Core.Path.{refl, sym, ◌∙◌}
use Prim.Native.Nat.{◌/◌, ◌<◌}
use lib.ListN.{length}
use Rattle.file_ok.proofs.RefusalLaws.{not_none, answered}
use Rattle.scratch.proofs.RefusalLaws.{refused_number, put_number, put_checked, put_room}
use Rattle.scratch.proofs.StandingLaws.{placed_polygons}
use Rattle.probe.proofs.CastLaws.{cast_none, cast_more, polygon_small, enough, cast_refused, cast_short, cast_answered}
use native.Mathlib.Omega.{arith}
use Rattle.probe.proofs.cast.gablemadder_raycast.Goals as goal

pub returns-in-Err : goal.returns-in-Err
returns-in-Err c = cast_refused _ _ _ _ _ _ _ (c.number.ensures ∙ refused_number _ _ _ _ (sym c.body_refusal.ensures ∙ c.in-Err.is)) (λ z. not_none _ (sym c.number.ensures ∙ z))

pub returns-then-polygons-n : goal.returns-then-polygons-n
returns-then-polygons-n c = rw c.number-then-polygons-n.ensures (cast_short _ _ _ _ _ _ _ (sym (put_number _ _ _ (sym c.body_refusal.ensures ∙ answered _ c.in_default.not-Err))) refl c.if-polygons-n.true)

pub of-at-requires : goal.of-at-requires
of-at-requires c = put_checked _ _ _ (put_number _ _ _ (sym c.body_refusal.ensures ∙ answered _ c.in_default.not-Err))

pub put_body-requires : goal.put_body-requires
put_body-requires c =
    let room = put_room _ _ _ _ (put_number _ _ _ (sym c.body_refusal.ensures ∙ answered _ c.in_default.not-Err)) c.of-at.ensures.fact_1 in
    record {
      fact_1 = c.of-at.ensures.fact_1;
      fact_2 = room.0;
      fact_3 = room.1;
    }

pub loop-k-init : goal.loop-k-init
loop-k-init c = cast_none _ _ _ _

pub overflow_cast-polygons : goal.overflow_cast-polygons
overflow_cast-polygons c = omega (arith, polygon_small _ _ _ _ _ c.of-at.ensures.fact_1 c.raycast-hit.ensures.scanned c.polygon_or.ensures)

pub offset_bounds-polygons-k : goal.offset_bounds-polygons-k
offset_bounds-polygons-k c =
    let lent : (c.loop-k.k < length c.args.polygons.now) × (c.loop-k.k < length c.args.times.now) = let e = enough (length c.args.rays.now / 6) _ _ c.if-polygons-n.false in (omega (arith, c.loop-k-test.true, e.0), omega (arith, c.loop-k-test.true, e.1)) in omega (arith, lent.0, c.well_formed.1.1.1.1.0)

pub bounds-polygons-k : goal.bounds-polygons-k
bounds-polygons-k c =
    let lent : (c.loop-k.k < length c.args.polygons.now) × (c.loop-k.k < length c.args.times.now) = let e = enough (length c.args.rays.now / 6) _ _ c.if-polygons-n.false in (omega (arith, c.loop-k-test.true, e.0), omega (arith, c.loop-k-test.true, e.1)) in
    let room : (c.loop-k.k < length c.loop-k.polygons) × (c.loop-k.k < length c.loop-k.times) = (omega (arith, lent.0, c.loop-k.invariant.struck.rest.long), omega (arith, lent.1, c.loop-k.invariant.along.rest.long)) in room.0

pub offset_bounds-times-k : goal.offset_bounds-times-k
offset_bounds-times-k c =
    let lent : (c.loop-k.k < length c.args.polygons.now) × (c.loop-k.k < length c.args.times.now) = let e = enough (length c.args.rays.now / 6) _ _ c.if-polygons-n.false in (omega (arith, c.loop-k-test.true, e.0), omega (arith, c.loop-k-test.true, e.1)) in omega (arith, lent.1, c.well_formed.1.1.1.1.1.0)

pub bounds-times-k : goal.bounds-times-k
bounds-times-k c =
    let lent : (c.loop-k.k < length c.args.polygons.now) × (c.loop-k.k < length c.args.times.now) = let e = enough (length c.args.rays.now / 6) _ _ c.if-polygons-n.false in (omega (arith, c.loop-k-test.true, e.0), omega (arith, c.loop-k-test.true, e.1)) in
    let room : (c.loop-k.k < length c.loop-k.polygons) × (c.loop-k.k < length c.loop-k.times) = (omega (arith, lent.0, c.loop-k.invariant.struck.rest.long), omega (arith, lent.1, c.loop-k.invariant.along.rest.long)) in room.1

pub loop-k-preserved : goal.loop-k-preserved
loop-k-preserved c =
    let lent : (c.loop-k.k < length c.args.polygons.now) × (c.loop-k.k < length c.args.times.now) = let e = enough (length c.args.rays.now / 6) _ _ c.if-polygons-n.false in (omega (arith, c.loop-k-test.true, e.0), omega (arith, c.loop-k-test.true, e.1)) in
    let l = lent in
    cast_more _ _ _ _ _ _ _ _ _ _ _ _ l.0 l.1 (placed_polygons _ _ c.of-at.ensures.fact_1) c.ray_at.ensures c.raycast-hit.ensures.scanned
    c.polygon_or.ensures c.time_or_zero.ensures c.loop-k.invariant

pub returns : goal.returns
returns c =
    let b = c.put_body.ensures in
    cast_answered _ _ _ _ _ _ _ (sym (put_number _ _ _ (sym c.body_refusal.ensures ∙ answered _ c.in_default.not-Err))) _ _ _ _ _ refl c.if-polygons-n.false
    (record { at = c.of-at.result; whole = (c.of-at.ensures.fact_2, c.of-at.ensures.fact_3); standing = b.value_2; words_kept = b.outside_1; reals_kept = b.outside_2 })
    c.loop-k.auto.k-end c.loop-k-test.false c.loop-k.invariant
