-- `dfm_core::answer::wipe_from` meets its contract.
use Rattle.std.proofs.Common.{◌∙◌, refl, sym}
use Rattle.dfm_core.specs.Work.{wipe_from}
use Rattle.dfm_core.proofs.answer.wipe_from.Goals as goal

pub returns-then-keeps_buffers : goal.returns-then-keeps_buffers
unfolding wipe_from
returns-then-keeps_buffers c = rw (sym c.keeps_buffers.ensures ∙ c.if-keeps_buffers.true) refl

pub returns : goal.returns
unfolding wipe_from
returns c = rw (sym c.keeps_buffers.ensures ∙ c.if-keeps_buffers.false) refl
