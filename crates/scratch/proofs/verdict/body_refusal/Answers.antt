-- `scratch::verdict::body_refusal` meets its contract.
use Rattle.std.proofs.Common.{◌∙◌, sym}
use mathlib.Core.Bool.{true, false}
use Rattle.solid_faces.specs.Faces.{Checked}
use Rattle.file_ok.proofs.RefusalLaws.{passed_up}
use Rattle.scratch.proofs.RefusalLaws.{refusal_file, refusal_cells}
use Rattle.scratch.proofs.verdict.body_refusal.Goals as goal

pub returns-in_err-judge : goal.returns-in_err-judge
returns-in_err-judge c = passed_up c.from_residual.result _ c.from_residual.ensures.1 ∙ refusal_file _ _ _ _ (sym c.judge.ensures ∙ c.in_err-judge.was)

pub of-at-requires : goal.of-at-requires
unfolding Checked
of-at-requires c = sym c.judge.ensures ∙ c.in_ok-judge.was

pub returns-then-words-at : goal.returns-then-words-at
returns-then-words-at c = refusal_cells _ _ _ _ true c.of-at.ensures.fact_1 c.if-words-at.true

pub returns : goal.returns
returns c = refusal_cells _ _ _ _ false c.of-at.ensures.fact_1 c.if-words-at.false
