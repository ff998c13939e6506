-- `rule_machining::walls::put_thin_walls` meets its contract: the faults of the walls that are passed are put.
use Rattle.rule_machining.proofs.WallLaws.{met_none, wall_room, met_next, met_all}
use native.Mathlib.Omega.{arith}
use Rattle.rule_machining.proofs.walls.put_thin_walls.Goals as goal

pub min_wall-wall-requires : goal.min_wall-wall-requires
min_wall-wall-requires c = c.requires.fact_1.standing.placed.checked

pub loop-i-init : goal.loop-i-init
loop-i-init c = (omega arith, met_none _ _ _ _, omega arith)

pub next_wall-faces-requires : goal.next_wall-faces-requires
next_wall-faces-requires c =
    let g = c.requires in
    record {
      fact_1 = g.fact_1;
      fact_2 = g.fact_2;
      fact_3 = c.loop-i-test.true;
    }

pub least-x-requires : goal.least-x-requires
least-x-requires c =
    let run = c.next_wall-faces.ensures.run in
    record {
      fact_1 = c.requires.fact_1;
      fact_2 = omega (arith, run.more);
      fact_3 = run.inside;
    }

pub put_thin_wall-k-requires : goal.put_thin_wall-k-requires
put_thin_wall-k-requires c =
    let g = c.requires in let all = wall_room _ _ _ _ g.fact_1 c.next_wall-faces.result g.fact_3 c.loop-i.invariant.2 c.next_wall-faces.ensures in record { fact_1 = all.0; fact_2 = all.1.0; fact_3 = all.1.1 }

pub loop-i-smaller : goal.loop-i-smaller
loop-i-smaller c = omega (arith, c.next_wall-faces.ensures.run.more, c.loop-i-test.true)

pub loop-i-preserved : goal.loop-i-preserved
loop-i-preserved c =
    let g = c.requires in
    let n = c.next_wall-faces.ensures in
    let p = c.put_thin_wall-k.ensures in
    (omega (arith, n.run.inside, g.fact_2.readings), met_next _ _ _ _ g.fact_1 _ _ _ c.min_wall-wall.ensures n c.least-x.ensures c.loop-i.invariant.1 p, omega (arith, c.loop-i.invariant.2, p.few, n.run.more))

pub shape_of-cells : goal.shape_of-cells
shape_of-cells c = c.loop-i.invariant.1.put.cells_kept.long

pub shape_of-numbers : goal.shape_of-numbers
shape_of-numbers c = c.loop-i.invariant.1.put.numbers_kept.long

pub returns : goal.returns
returns c =
    let g = c.requires in
    let all = g.fact_2.readings in
    record {
      fact_1 = met_all _ (omega (arith, c.loop-i-test.false, all)) c.loop-i.invariant.1;
      fact_2 = omega (arith, c.loop-i.invariant.0, c.loop-i.invariant.2, all);
    }
