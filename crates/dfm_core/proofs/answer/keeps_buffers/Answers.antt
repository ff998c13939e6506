-- `dfm_core::answer::keeps_buffers` meets its contract.
use Rattle.dfm_core.specs.Work.{is_early, keeps_buffers}
use Rattle.dfm_core.proofs.answer.keeps_buffers.Goals as goal

pub returns-in-Ok : goal.returns-in-Ok
unfolding keeps_buffers
returns-in-Ok c = rw c.in-Ok.is

pub returns-in-Err : goal.returns-in-Err
unfolding keeps_buffers is_early
returns-in-Err c = rw c.in-Err.is (cc)
