-- `num_real::select::max` meets its contract.
use mathlib.Core.Path.{sym, ◌∙◌}
use Rattle.num_real.specs.Select.{max_of}
use Rattle.num_real.proofs.SelectLaws.{chosen_nan, chosen_second, chosen_first}
use Rattle.num_real.proofs.select.max.Goals as goal

pub returns-then-is_nan : goal.returns-then-is_nan
unfolding max_of
returns-then-is_nan c = chosen_nan _ _ _ (sym c.is_nan.ensures.value ∙ c.if-is_nan.true)

pub returns-then-a-b : goal.returns-then-a-b
unfolding max_of
returns-then-a-b c = chosen_second _ _ _ c.if-a-b.true

pub returns : goal.returns
unfolding max_of
returns c = chosen_first _ _ _ (sym c.is_nan.ensures.value ∙ c.if-is_nan.false) c.if-a-b.false
