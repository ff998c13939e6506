-- `file_field::read::u32_at` meets its contract.
use Rattle.file_field.specs.Field.{u32_at}
use borrow.Author.Rules.{rules}
use Rattle.file_field.proofs.read.u32_at.Goals as goal

pub returns : goal.returns
unfolding u32_at
returns c = search rules
