-- `file_job_ok::rules::flagged_real` meets its contract.
use Rattle.file_job_ok.specs.Rules.{flagged_real}
use Rattle.file_job_ok.proofs.rules.flagged_real.Goals as goal

pub returns-then-flag : goal.returns-then-flag
unfolding flagged_real
returns-then-flag c = rw (c.if-flag.true, c.in_range.ensures, c.f64_at.ensures)

pub returns : goal.returns
unfolding flagged_real
returns c = rw (c.if-flag.false, c.u64_at.ensures)
