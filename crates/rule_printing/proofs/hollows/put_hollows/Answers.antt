-- `rule_printing::hollows::put_hollows` meets its contract: the faults of the bodies that are passed are put.
use Rattle.scratch.proofs.StandingLaws.{placed_polygons}
use Rattle.rule_printing.proofs.HollowLaws.{hollows_start, hollows_next, hollows_end, volume_room, volume_fits, volume_bytes, hollow_fits}
use native.Mathlib.Omega.{arith}
use Rattle.rule_printing.proofs.hollows.put_hollows.Goals as goal

pub job_of-job-requires : goal.job_of-job-requires
job_of-job-requires c = c.requires.fact_1.placed.checked

pub loop-b-init : goal.loop-b-init
loop-b-init c = hollows_start _ _ _ _

pub overflow_add-volumes : goal.overflow_add-volumes
overflow_add-volumes c = omega (arith, volume_fits _ _ _ _ c.requires.fact_1 c.loop-b.b c.loop-b-test.true)

pub offset_bounds-reals-volumes : goal.offset_bounds-reals-volumes
offset_bounds-reals-volumes c = omega (arith, volume_bytes _ _ _ _ c.requires.fact_1 c.loop-b.b c.loop-b-test.true)

pub bounds-reals-volumes : goal.bounds-reals-volumes
bounds-reals-volumes c = volume_room _ _ _ _ c.requires.fact_1 c.loop-b.b c.loop-b-test.true

pub put_hollow-k-requires : goal.put_hollow-k-requires
put_hollow-k-requires c = let all = hollow_fits _ _ _ _ c.requires.fact_1 c.loop-b.b c.loop-b-test.true c.requires.fact_2 c.loop-b.invariant.few in record { fact_1 = all.0; fact_2 = all.1 }

pub loop-b-preserved : goal.loop-b-preserved
loop-b-preserved c = hollows_next _ _ _ _ c.requires.fact_1 c.loop-b.b c.loop-b-test.true c.requires.fact_3 _ c.job_of-job.ensures _ c.is_sls-sls.ensures c.loop-b.invariant c.put_hollow-k.ensures

pub shape_of-cells : goal.shape_of-cells
shape_of-cells c = c.loop-b.invariant.put.cells_kept.long

pub shape_of-numbers : goal.shape_of-numbers
shape_of-numbers c = c.loop-b.invariant.put.numbers_kept.long

pub returns : goal.returns
returns c =
    record {
      fact_1 = hollows_end _ (omega (arith, c.loop-b-test.false, placed_polygons _ _ c.requires.fact_1.placed)) c.loop-b.invariant;
      fact_2 = omega (arith, c.loop-b.invariant.few, c.requires.fact_1.placed.laid);
    }
