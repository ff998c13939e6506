-- `solid_faces::verdict::judge` meets its contract.
use Rattle.std.proofs.Common.{◌≡◌, ◌∙◌, sym, ap}
use mathlib.Core.Bool.{not}
use Rattle.file_ok.specs.Work.{Readable}
use Rattle.file_ok.proofs.RefusalLaws.{passed_up}
use Rattle.solid_faces.proofs.BodyLaws.{body_refused, body_flat, body_many, body_accepted}
use Rattle.solid_faces.proofs.verdict.judge.Goals as goal

pub returns-in_err-judge : goal.returns-in_err-judge
returns-in_err-judge c = passed_up c.from_residual.result _ c.from_residual.ensures.1 ∙ body_refused _ _ (sym c.judge.ensures ∙ c.in_err-judge.was)

pub any_flat-requires : goal.any_flat-requires
unfolding Readable
any_flat-requires c = sym c.judge.ensures ∙ c.in_ok-judge.was

pub returns-then-any_flat : goal.returns-then-any_flat
unfolding Readable
returns-then-any_flat c = body_flat _ _ (sym c.judge.ensures ∙ c.in_ok-judge.was) c.any_flat.ensures c.if-any_flat.true

pub few_faces-requires : goal.few_faces-requires
unfolding Readable
few_faces-requires c = sym c.judge.ensures ∙ c.in_ok-judge.was

pub returns-then-not-few_faces : goal.returns-then-not-few_faces
unfolding Readable
returns-then-not-few_faces c = body_many _ _ _ (sym c.judge.ensures ∙ c.in_ok-judge.was) c.any_flat.ensures c.if-any_flat.false c.few_faces.ensures (ap not c.if-not-few_faces.true)

pub returns : goal.returns
unfolding Readable
returns c = body_accepted _ _ _ (sym c.judge.ensures ∙ c.in_ok-judge.was) c.any_flat.ensures c.if-any_flat.false c.few_faces.ensures (ap not c.if-not-few_faces.false)
