-- `dfm_core::find::machined` meets its contract.
use borrow.Author.Rules.{rules}
use Rattle.dfm_core.proofs.find.machined.Goals as goal

pub machining-faults-requires : goal.machining-faults-requires
machining-faults-requires c =
    record {
      fact_1 = c.requires.fact_1;
      fact_2 = c.requires.fact_2;
      fact_3 = c.requires.fact_3;
    }

pub shape_of-words : goal.shape_of-words
shape_of-words c = c.machining-faults.ensures.words_kept.long

pub shape_of-reals : goal.shape_of-reals
shape_of-reals c = c.machining-faults.ensures.reals_kept.long

pub shape_of-cells : goal.shape_of-cells
shape_of-cells c = c.machining-faults.ensures.put.cells_kept.long

pub shape_of-numbers : goal.shape_of-numbers
shape_of-numbers c = c.machining-faults.ensures.put.numbers_kept.long

pub returns : goal.returns
returns c = record { put = c.machining-faults.ensures; summary = c.none.ensures }
