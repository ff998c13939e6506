-- `dfm_core::find::find` meets its contract: a case for each process.
use borrow.Author.Rules.{rules}
use mathlib.Core.Path.{refl, ◌∙◌}
use Rattle.file_part.specs.Part.{part_of}
use Rattle.dfm_core.proofs.FoundLaws.{process_is, with_segments, by_printing, found_none, found_machined, found_sheet, found_print}
use native.Mathlib.Omega.{arith}
use Rattle.dfm_core.proofs.find.find.Goals as goal

pub returns-then-n-eq0 : goal.returns-then-n-eq0
returns-then-n-eq0 c = found_none _ _ _ _ _ _ _ c.requires.fact_2 c.if-n-eq0.true _ c.none.ensures c.requires.fact_1

pub job_of-requires : goal.job_of-requires
job_of-requires c = c.requires.fact_1.placed.checked

pub machined-requires : goal.machined-requires
machined-requires c =
    record {
      fact_1 = c.requires.fact_1;
      fact_2 = c.requires.fact_2;
      fact_3 = with_segments _ _ c.requires.fact_3;
    }

pub sheet_metal-requires : goal.sheet_metal-requires
sheet_metal-requires c =
    record {
      fact_1 = c.requires.fact_1;
      fact_2 = c.requires.fact_2;
      fact_3 = omega (arith, c.if-n-eq0.false);
      fact_4 = with_segments _ _ c.requires.fact_3;
    }

pub printing-requires : goal.printing-requires
printing-requires c =
    record {
      standing_1 = c.requires.fact_1;
      standing_2 = c.requires.fact_2;
      standing_3 = omega (arith, c.if-n-eq0.false);
      segments_value_1 = with_segments _ _ c.requires.fact_3;
      segments_value_2 = λ traps. c.requires.fact_3.bodies ∙ traps;
    }

pub shape_of-words-in-CncMachining : goal.shape_of-words-in-CncMachining
shape_of-words-in-CncMachining c = c.machined.ensures.put.words_kept.long

pub shape_of-reals-in-CncMachining : goal.shape_of-reals-in-CncMachining
shape_of-reals-in-CncMachining c = c.machined.ensures.put.reals_kept.long

pub shape_of-cells-in-CncMachining : goal.shape_of-cells-in-CncMachining
shape_of-cells-in-CncMachining c = c.machined.ensures.put.put.cells_kept.long

pub shape_of-numbers-in-CncMachining : goal.shape_of-numbers-in-CncMachining
shape_of-numbers-in-CncMachining c = c.machined.ensures.put.put.numbers_kept.long

pub returns-in-CncMachining : goal.returns-in-CncMachining
returns-in-CncMachining c = found_machined _ _ _ _ _ _ _ _ _ _ _ c.requires.fact_2 c.if-n-eq0.false _ (process_is _ _ _ c.job_of.ensures c.in-CncMachining.is) c.machined.ensures

pub shape_of-words-in-SheetMetal : goal.shape_of-words-in-SheetMetal
shape_of-words-in-SheetMetal c = c.sheet_metal.ensures.words_kept.long

pub shape_of-reals-in-SheetMetal : goal.shape_of-reals-in-SheetMetal
shape_of-reals-in-SheetMetal c = c.sheet_metal.ensures.reals_kept.long

pub shape_of-cells-in-SheetMetal : goal.shape_of-cells-in-SheetMetal
shape_of-cells-in-SheetMetal c = c.sheet_metal.ensures.put.cells_kept.long

pub shape_of-numbers-in-SheetMetal : goal.shape_of-numbers-in-SheetMetal
shape_of-numbers-in-SheetMetal c = c.sheet_metal.ensures.put.numbers_kept.long

pub returns-in-SheetMetal : goal.returns-in-SheetMetal
returns-in-SheetMetal c = found_sheet _ _ _ _ _ _ _ _ _ _ _ c.requires.fact_2 c.if-n-eq0.false _ (process_is _ _ _ c.job_of.ensures c.in-SheetMetal.is) c.sheet_metal.ensures

pub shape_of-words-in-Fdm : goal.shape_of-words-in-Fdm
shape_of-words-in-Fdm c = c.printing.ensures.words_kept.long

pub shape_of-reals-in-Fdm : goal.shape_of-reals-in-Fdm
shape_of-reals-in-Fdm c = c.printing.ensures.reals_kept.long

pub shape_of-cells-in-Fdm : goal.shape_of-cells-in-Fdm
shape_of-cells-in-Fdm c = c.printing.ensures.put.cells_kept.long

pub shape_of-numbers-in-Fdm : goal.shape_of-numbers-in-Fdm
shape_of-numbers-in-Fdm c = c.printing.ensures.put.numbers_kept.long

pub returns-in-Fdm : goal.returns-in-Fdm
returns-in-Fdm c =
    let p = c.job_of.result.process in
    let prints = by_printing (part_of c.args.file.now) p c.in-Fdm.is in
    found_print _ _ _ _ _ _ _ _ _ _ _ c.requires.fact_2 c.if-n-eq0.false _ p (process_is _ _ p c.job_of.ensures refl) prints.0 prints.1 c.requires.fact_3 c.printing.ensures
