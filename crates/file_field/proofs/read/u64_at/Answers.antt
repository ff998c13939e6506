-- `file_field::read::u64_at` meets its contract.
use Rattle.file_field.specs.Field.{u64_at}
use borrow.Author.Rules.{rules}
use Rattle.file_field.proofs.read.u64_at.Goals as goal

pub returns : goal.returns
unfolding u64_at
returns c = search rules
