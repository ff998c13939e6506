-- `file_ok::rules::polygons_are_good` meets its contract.
use native.Mathlib.Omega.{arith}
use Rattle.file_ok.proofs.PolygonLaws.{start_none, start_more, polygons_none, polygons_more, polygons_fail, polygons_all, entry_inside}
use Rattle.file_ok.proofs.rules.polygons_are_good.Goals as goal

pub loop-p-init : goal.loop-p-init
loop-p-init c = (omega arith, start_none _ _, polygons_none _ _)

pub entry_is_good-requires : goal.entry_is_good-requires
entry_is_good-requires c =
    record {
      fact_1 = omega (arith, c.entry_at-at.ensures, c.loop-p-test.true, c.requires.fact_1);
      fact_2 = omega (arith, c.loop-p.invariant.0, c.requires.fact_2);
    }

pub returns-then-not-entry_is_good : goal.returns-then-not-entry_is_good
returns-then-not-entry_is_good c = polygons_fail _ _ _ _ _ _ _ c.entry_at-at.ensures c.loop-p.invariant.1 c.entry_is_good.ensures c.if-not-entry_is_good.true c.loop-p-test.true

pub run_length-first-requires : goal.run_length-first-requires
run_length-first-requires c = omega (arith, c.entry_at-at.ensures, c.loop-p-test.true, c.requires.fact_1)

pub loop-p-preserved : goal.loop-p-preserved
loop-p-preserved c =
    let place = c.entry_at-at.ensures in
    let n = c.run_length-first.ensures.fact_1 in
    (entry_inside _ _ _ _ _ _ c.entry_is_good.ensures c.if-not-entry_is_good.false n, start_more _ _ _ _ _ c.loop-p.invariant.1 (rw place at n), polygons_more _ _ _ _ _ _ place c.loop-p.invariant.1 c.entry_is_good.ensures c.if-not-entry_is_good.false c.loop-p.invariant.2)

pub returns : goal.returns
returns c = polygons_all _ _ _ _ _ c.loop-p.auto.p-end c.loop-p-test.false c.loop-p.invariant.1 c.loop-p.invariant.2
