-- `file_part::read::run_length` meets its contract.
use Rattle.file_part.specs.Part.{count_at_of}
use borrow.Author.Rules.{rules}
use Rattle.file_part.proofs.read.run_length.Goals as goal

pub returns : goal.returns
unfolding count_at_of
returns c =
    record {
      fact_1 = cc;
      fact_2 = search rules;
    }
