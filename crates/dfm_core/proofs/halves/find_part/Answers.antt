-- `dfm_core::halves::find_part` meets its contract.
use borrow.Author.Rules.{rules}
use mathlib.Core.Path.{◌∙◌}
use Rattle.scratch.proofs.RefusalLaws.{put_checked, put_room}
use Rattle.dfm_core.proofs.FoundLaws.{asked}
use Rattle.dfm_core.proofs.ReportLaws.{finding_many, finding_good}
use Rattle.dfm_core.proofs.halves.find_part.Goals as goal

pub job_of-requires : goal.job_of-requires
job_of-requires c = put_checked _ _ _ c.requires

pub of-at-requires : goal.of-at-requires
of-at-requires c = put_checked _ _ _ c.requires

pub put_body-faces-requires : goal.put_body-faces-requires
put_body-faces-requires c = let room = put_room _ _ _ _ c.requires c.of-at.ensures.fact_1 in
    record {
      fact_1 = c.of-at.ensures.fact_1;
      fact_2 = room.0;
      fact_3 = room.1;
    }

pub find-found-requires : goal.find-found-requires
find-found-requires c =
    record {
      fact_1 = c.put_body-faces.ensures.value_2;
      fact_2 = c.put_body-faces.ensures.value_1;
      fact_3 = asked _ _ _ _ c.job_of.ensures c.stages_of.ensures c.of-at.ensures.fact_2 c.of-at.ensures.fact_3;
    }

pub returns-then-min-found : goal.returns-then-min-found
returns-then-min-found c = finding_many _ _ _ _ _ _ _ _ _ _ _ _ _ c.find-found.ensures c.requires _ _ c.rows_lent.ensures _ c.min.ensures c.if-min-found.true

pub shape_of-words : goal.shape_of-words
shape_of-words c = c.find-found.ensures.words_long ∙ c.put_body-faces.ensures.outside_1.long

pub shape_of-reals : goal.shape_of-reals
shape_of-reals c = c.find-found.ensures.reals_long ∙ c.put_body-faces.ensures.outside_2.long

pub shape_of-cells : goal.shape_of-cells
shape_of-cells c = c.find-found.ensures.put.cells_kept.long

pub shape_of-numbers : goal.shape_of-numbers
shape_of-numbers c = c.find-found.ensures.put.numbers_kept.long

pub returns : goal.returns
returns c = finding_good _ _ _ _ _ _ _ _ _ _ _ _ _ c.find-found.ensures c.requires _ _ c.rows_lent.ensures _ c.min.ensures c.if-min-found.false _ c.put_body-faces.ensures.value_1 (asked _ _ _ _ c.job_of.ensures c.stages_of.ensures c.of-at.ensures.fact_2 c.of-at.ensures.fact_3)
