-- `print_walls::put_print_walls` meets its contract: the faults of the walls that are passed are put.
use native.Mathlib.Omega.{arith}
use Rattle.print_walls.proofs.WalkLaws.{met_none, wall_room, met_next, met_all}
use Rattle.print_walls.proofs.put_print_walls.Goals as goal

pub job_of-job-requires : goal.job_of-job-requires
job_of-job-requires c = c.requires.fact_1.standing.placed.checked

pub loop-i-init : goal.loop-i-init
loop-i-init c = (omega arith, met_none _ _ _ _, omega arith)

pub next_wall-faces-requires : goal.next_wall-faces-requires
next_wall-faces-requires c =
    record {
      fact_1 = c.requires.fact_1;
      fact_2 = c.requires.fact_2;
      fact_3 = c.loop-i-test.true;
    }

pub thinnest_reading-wall-requires : goal.thinnest_reading-wall-requires
thinnest_reading-wall-requires c =
    record {
      fact_1 = c.requires.fact_1;
      fact_2 = c.next_wall-faces.ensures.run.more;
      fact_3 = c.next_wall-faces.ensures.run.inside;
    }

pub put_wall-k-requires : goal.put_wall-k-requires
put_wall-k-requires c = let all = wall_room _ _ _ _ c.requires.fact_1 c.next_wall-faces.result c.requires.fact_3 c.loop-i.invariant.2 c.next_wall-faces.ensures in record { fact_1 = all.0; fact_2 = all.1.0; fact_3 = all.1.1 }

pub loop-i-smaller : goal.loop-i-smaller
loop-i-smaller c = omega (arith, c.next_wall-faces.ensures.run.more, c.loop-i-test.true)

pub loop-i-preserved : goal.loop-i-preserved
loop-i-preserved c =
    let g = c.requires in
    let n = c.next_wall-faces.ensures in
    let p = c.put_wall-k.ensures in
    (omega (arith, n.run.inside, g.fact_2.readings), met_next _ _ _ _ g.fact_1 _ _ c.job_of-job.result _ c.job_of-job.ensures c.normalized-up.ensures n c.thinnest_reading-wall.ensures c.loop-i.invariant.1 p, omega (arith, c.loop-i.invariant.2, p.few, n.run.more))

pub shape_of-cells : goal.shape_of-cells
shape_of-cells c = c.loop-i.invariant.1.put.cells_kept.long

pub shape_of-numbers : goal.shape_of-numbers
shape_of-numbers c = c.loop-i.invariant.1.put.numbers_kept.long

pub returns : goal.returns
returns c =
    let g = c.requires in
    let all = g.fact_2.readings in
    record {
      fact_1 = met_all _ (omega (arith, c.loop-i-test.false, all)) c.loop-i.invariant.1;
      fact_2 = omega (arith, c.loop-i.invariant.0, c.loop-i.invariant.2, all);
    }
