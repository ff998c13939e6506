-- `file_job_ok::rules::flagged_word` meets its contract.
use Rattle.file_job_ok.specs.Rules.{flagged_word}
use Rattle.file_job_ok.proofs.rules.flagged_word.Goals as goal

pub returns-then-flag : goal.returns-then-flag
unfolding flagged_word
returns-then-flag c = rw (c.if-flag.true, c.u32_at-n.ensures)

pub returns : goal.returns
unfolding flagged_word
returns c = rw (c.if-flag.false, c.u32_at-n.ensures)
