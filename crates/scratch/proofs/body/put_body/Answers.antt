-- `scratch::body::put_body` meets its contract.
use lib.Ieee.{nan}
use Rattle.list_laws.proofs.Outside.{outside_then, outside_wide}
use Rattle.scratch.proofs.TreeLaws.{standing_put}
use native.Mathlib.Omega.{arith}
use Rattle.scratch.proofs.body.put_body.Goals as goal

pub put_words-n-requires : goal.put_words-n-requires
put_words-n-requires c =
    record {
      fact_1 = c.requires.fact_1;
      fact_2 = c.requires.fact_2;
    }

pub put_reals-requires : goal.put_reals-requires
put_reals-requires c =
    record {
      placed_1 = c.requires.fact_1;
      placed_2 = omega (arith, c.requires.fact_2, c.put_words-n.ensures.outside.long);
      placed_3 = c.put_words-n.ensures.value_2;
      reals_in_bounds = c.requires.fact_3;
    }

pub put_tree-requires : goal.put_tree-requires
put_tree-requires c =
    record {
      fact_1 = c.requires.fact_1;
      fact_2 = omega (arith, c.requires.fact_2, c.put_words-n.ensures.outside.long);
      fact_3 = omega (arith, c.requires.fact_3, c.put_reals.ensures.outside.long);
    }

pub returns : goal.returns
returns c =
    let at = c.args.at in
    let r = c.put_reals.ensures in
    let t = c.put_tree.ensures in
    let words = c.put_words-n.new.words in
    let reals = c.put_reals.new.reals in
    record {
      value_1 = c.put_words-n.ensures.value_1;
      value_2 = standing_put _ at words _ reals _ c.requires.fact_1 (omega (arith, c.requires.fact_2, c.put_words-n.ensures.outside.long)) (omega (arith, c.requires.fact_3, r.outside.long)) t c.put_words-n.ensures.value_2 r.reals;
      outside_1 = outside_then 0 _ _ _ words _ c.put_words-n.ensures.outside (outside_wide 0 _ _ 0 at.readings words _ (omega arith) (omega (arith, c.requires.fact_1.laid)) t.words_kept);
      outside_2 = outside_then nan _ _ _ reals _ (outside_wide nan _ _ 0 at.falling _ reals (omega arith) (omega (arith, c.requires.fact_1.laid)) r.outside)
          (outside_wide nan _ _ 0 at.falling reals _ (omega arith) (omega arith) t.reals_kept);
    }
