-- `dfm_core::halves::finish` meets its contract.
use Rattle.std.proofs.Common.{◌∙◌, sym}
use Rattle.dfm_core.proofs.ReportLaws.{ended_early, ended_late}
use Rattle.dfm_core.proofs.halves.finish.Goals as goal

pub answer_part-answer-requires : goal.answer_part-answer-requires
answer_part-answer-requires c = c.requires

pub returns-then-keeps_buffers : goal.returns-then-keeps_buffers
returns-then-keeps_buffers c = ended_early _ _ _ _ _ _ _ c.answer_part-answer.ensures (sym c.keeps_buffers.ensures ∙ c.if-keeps_buffers.true)

pub returns : goal.returns
returns c = ended_late _ _ _ _ _ _ _ c.answer_part-answer.ensures _ _ (sym c.keeps_buffers.ensures ∙ c.if-keeps_buffers.false) c.fill.ensures c.fill-2.ensures
