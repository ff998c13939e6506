-- `rule_sheet::sheet::sheet_metal` meets its contract: the material, then the rest.
use mathlib.Core.Path.{sym, ◌∙◌}
use Rattle.rule_sheet.proofs.SheetLaws.{words_ranked, reals_ranked, said, metal_refused, words_metal, reals_metal, cells_metal, numbers_metal, metal_formed}
use native.Mathlib.Omega.{arith}
use Rattle.rule_sheet.proofs.sheet.sheet_metal.Goals as goal

pub put_ranks-requires : goal.put_ranks-requires
put_ranks-requires c =
    record {
      fact_1 = c.requires.fact_1;
      fact_2 = c.requires.fact_2;
    }

pub job_of-job-requires : goal.job_of-job-requires
job_of-job-requires c = c.requires.fact_1.placed.checked

pub shape_of-words-then-not-is_formed : goal.shape_of-words-then-not-is_formed
shape_of-words-then-not-is_formed c = (words_ranked _ _ _ _ _ _ c.requires.fact_1 c.put_ranks.ensures _ c.job_of-job.ensures (omega (arith, c.requires.fact_2, c.requires.fact_3)) c.put_material-k.ensures).long

pub shape_of-reals-then-not-is_formed : goal.shape_of-reals-then-not-is_formed
shape_of-reals-then-not-is_formed c = (reals_ranked _ _ _ _ _ _ c.requires.fact_1 c.put_ranks.ensures _ c.job_of-job.ensures (omega (arith, c.requires.fact_2, c.requires.fact_3)) c.put_material-k.ensures).long

pub shape_of-cells-then-not-is_formed : goal.shape_of-cells-then-not-is_formed
shape_of-cells-then-not-is_formed c = (said _ _ _ _ _ _ c.requires.fact_1 c.put_ranks.ensures _ c.job_of-job.ensures (omega (arith, c.requires.fact_2, c.requires.fact_3)) c.put_material-k.ensures).cells_kept.long

pub shape_of-numbers-then-not-is_formed : goal.shape_of-numbers-then-not-is_formed
shape_of-numbers-then-not-is_formed c = (said _ _ _ _ _ _ c.requires.fact_1 c.put_ranks.ensures _ c.job_of-job.ensures (omega (arith, c.requires.fact_2, c.requires.fact_3)) c.put_material-k.ensures).numbers_kept.long

pub returns-then-not-is_formed : goal.returns-then-not-is_formed
returns-then-not-is_formed c = metal_refused _ _ _ _ _ _ c.requires.fact_1 c.put_ranks.ensures _ c.job_of-job.ensures (omega (arith, c.requires.fact_2, c.requires.fact_3)) c.put_material-k.ensures (sym c.is_formed.ensures ∙ c.if-not-is_formed.true) _ c.none.ensures

pub put_formed-requires : goal.put_formed-requires
put_formed-requires c =
    record {
      standing_1 = c.put_ranks.ensures.standing;
      standing_2 = c.put_ranks.ensures.ranked;
      faces_value_1 = c.requires.fact_2;
      faces_value_2 = c.requires.fact_3;
      faces_value_3 = c.put_material-k.ensures.few;
      faces_value_4 = c.requires.fact_4;
    }

pub shape_of-words : goal.shape_of-words
shape_of-words c = (words_metal _ _ _ _ _ _ c.requires.fact_1 c.put_ranks.ensures _ c.job_of-job.ensures (omega (arith, c.requires.fact_2, c.requires.fact_3)) c.put_material-k.ensures _ _ _ c.put_formed.ensures).long

pub shape_of-reals : goal.shape_of-reals
shape_of-reals c = (reals_metal _ _ _ _ _ _ c.requires.fact_1 c.put_ranks.ensures _ c.job_of-job.ensures (omega (arith, c.requires.fact_2, c.requires.fact_3)) c.put_material-k.ensures _ _ _ c.put_formed.ensures).long

pub shape_of-cells : goal.shape_of-cells
shape_of-cells c = cells_metal _ _ _ _ _ _ c.requires.fact_1 c.put_ranks.ensures _ c.job_of-job.ensures (omega (arith, c.requires.fact_2, c.requires.fact_3)) c.put_material-k.ensures _ _ _ c.put_formed.ensures

pub shape_of-numbers : goal.shape_of-numbers
shape_of-numbers c = numbers_metal _ _ _ _ _ _ c.requires.fact_1 c.put_ranks.ensures _ c.job_of-job.ensures (omega (arith, c.requires.fact_2, c.requires.fact_3)) c.put_material-k.ensures _ _ _ c.put_formed.ensures

pub returns : goal.returns
returns c = metal_formed _ _ _ _ _ _ c.requires.fact_1 c.put_ranks.ensures _ c.job_of-job.ensures (omega (arith, c.requires.fact_2, c.requires.fact_3)) c.put_material-k.ensures _ _ _ c.put_formed.ensures (sym c.is_formed.ensures ∙ c.if-not-is_formed.false)
