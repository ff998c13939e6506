-- `rule_printing::printing::hollow_rule` meets its contract: by the process.
use Rattle.file_part.specs.Part.{part_of}
use Rattle.rule_printing.proofs.RuleLaws.{traps_is, hollows_quiet, hollows_found}
use native.Mathlib.Omega.{arith}
use mathlib.Core.Path.{ap}
use mathlib.Core.Bool.{not}
use Rattle.rule_printing.proofs.printing.hollow_rule.Goals as goal

pub job_of-job-requires : goal.job_of-job-requires
job_of-job-requires c = c.requires.fact_1.placed.checked

pub returns-then-not-traps_hollows : goal.returns-then-not-traps_hollows
returns-then-not-traps_hollows c = let all = hollows_quiet _ _ c.job_of-job.ensures _ c.traps_hollows.ensures (ap not c.if-not-traps_hollows.true) in record { fact_1 = all.0; fact_2 = all.1 }

pub put_hollows-requires : goal.put_hollows-requires
put_hollows-requires c =
    record {
      fact_1 = c.requires.fact_1;
      fact_2 = omega (arith, c.requires.fact_2);
      fact_3 = c.requires.fact_3 (traps_is (part_of c.args.file.now) c.job_of-job.result c.job_of-job.ensures _ c.traps_hollows.ensures (ap not c.if-not-traps_hollows.false));
    }

pub shape_of-cells : goal.shape_of-cells
shape_of-cells c = c.put_hollows.ensures.fact_1.cells_kept.long

pub shape_of-numbers : goal.shape_of-numbers
shape_of-numbers c = c.put_hollows.ensures.fact_1.numbers_kept.long

pub returns : goal.returns
returns c =
    record {
      fact_1 = hollows_found _ _ c.job_of-job.ensures _ c.traps_hollows.ensures (ap not c.if-not-traps_hollows.false) c.put_hollows.ensures.fact_1;
      fact_2 = c.put_hollows.ensures.fact_2;
    }
