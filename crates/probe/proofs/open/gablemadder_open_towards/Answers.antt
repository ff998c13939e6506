-- `probe::open::gablemadder_open_towards` meets its contract.
use mathlib.Core.Path.{refl, sym, ◌∙◌}
use Prim.Native.Nat.{◌<◌}
use lib.ListN.{length}
use Rattle.file_ok.proofs.RefusalLaws.{not_none, answered}
use Rattle.scratch.proofs.RefusalLaws.{refused_number, put_number, put_checked, put_room}
use Rattle.probe.proofs.OpenLaws.{open_none, open_more, open_refused, open_short, open_answered}
use native.Mathlib.Omega.{arith}
use Rattle.probe.proofs.open.gablemadder_open_towards.Goals as goal

pub returns-in-Err : goal.returns-in-Err
returns-in-Err c = open_refused _ _ _ _ _ _ (c.number.ensures ∙ refused_number _ _ _ _ (sym c.body_refusal.ensures ∙ c.in-Err.is)) (λ z. not_none _ (sym c.number.ensures ∙ z))

pub returns-then-cells-n : goal.returns-then-cells-n
returns-then-cells-n c = rw c.number-then-cells-n.ensures (open_short _ _ _ _ _ _ (sym (put_number _ _ _ (sym c.body_refusal.ensures ∙ answered _ c.in_default.not-Err))) refl c.if-cells-n.true)

pub of-at-requires : goal.of-at-requires
of-at-requires c = put_checked _ _ _ (put_number _ _ _ (sym c.body_refusal.ensures ∙ answered _ c.in_default.not-Err))

pub put_body-requires : goal.put_body-requires
put_body-requires c =
    let room = put_room _ _ _ _ (put_number _ _ _ (sym c.body_refusal.ensures ∙ answered _ c.in_default.not-Err)) c.of-at.ensures.fact_1 in
    record {
      fact_1 = c.of-at.ensures.fact_1;
      fact_2 = room.0;
      fact_3 = room.1;
    }

pub loop-k-init : goal.loop-k-init
loop-k-init c = open_none _ _ _

pub loop-k-preserved : goal.loop-k-preserved
loop-k-preserved c =
    let lent : c.loop-k.k < length c.args.cells.now = omega (arith, c.loop-k-test.true, c.if-cells-n.false) in
    open_more _ _ _ _ _ _ _ lent c.ray_at-ray.ensures c.open_towards.ensures c.loop-k.invariant

pub returns : goal.returns
returns c =
    let b = c.put_body.ensures in
    open_answered _ _ _ _ _ _ (sym (put_number _ _ _ (sym c.body_refusal.ensures ∙ answered _ c.in_default.not-Err))) _ _ _ _ refl c.if-cells-n.false
    (record { at = c.of-at.result; whole = (c.of-at.ensures.fact_2, c.of-at.ensures.fact_3); standing = b.value_2; words_kept = b.outside_1; reals_kept = b.outside_2 })
    c.loop-k.auto.k-end c.loop-k-test.false c.loop-k.invariant
