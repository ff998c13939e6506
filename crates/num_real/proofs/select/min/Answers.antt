-- `num_real::select::min` meets its contract.
use mathlib.Core.Path.{sym, ◌∙◌}
use Rattle.num_real.specs.Select.{min_of}
use Rattle.num_real.proofs.SelectLaws.{chosen_nan, chosen_second, chosen_first}
use Rattle.num_real.proofs.select.min.Goals as goal

pub returns-then-is_nan : goal.returns-then-is_nan
unfolding min_of
returns-then-is_nan c = chosen_nan _ _ _ (sym c.is_nan.ensures.value ∙ c.if-is_nan.true)

pub returns-then-b-a : goal.returns-then-b-a
unfolding min_of
returns-then-b-a c = chosen_second _ _ _ c.if-b-a.true

pub returns : goal.returns
unfolding min_of
returns c = chosen_first _ _ _ (sym c.is_nan.ensures.value ∙ c.if-is_nan.false) c.if-b-a.false
