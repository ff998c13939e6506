-- `file_job_ok::rules::name_byte_is_good` meets its contract.
use borrow.Author.Tests.{lt-ltb, le-ltb}
use Rattle.file_job_ok.specs.Rules.{name_byte_good}
use Rattle.file_job_ok.proofs.rules.name_byte_is_good.Goals as goal

pub returns-then-k-length : goal.returns-then-k-length
unfolding name_byte_good
returns-then-k-length c = rw (lt-ltb _ _ c.if-k-length.true)

pub returns : goal.returns
unfolding name_byte_good
returns c = rw (le-ltb _ _ c.if-k-length.false)
