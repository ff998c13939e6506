-- `num_sine::sine_entry` meets its contract: the code's table is that of the definition.
use mathlib.Core.Path.{ap, sym}
use Prim.Native.Nat.{ℕ}
use native.Mathlib.Nat.{min-eq_left, min-eq_right, le_of_lt}
use lib.ListN.{get_or}
use borrow.Author.Rules.{rules}
use Rattle.num_sine.specs.Table.{sine_table}
use Rattle.num_sine.specs.Sine.{sine_entry_of}
use Rattle.num_sine.proofs.sine_entry.Goals as goal

pub returns-then-k-gt900 : goal.returns-then-k-gt900
unfolding sine_entry_of sine_table
returns-then-k-gt900 c = ap (λ (i : ℕ). get_or sine_table i 0) (sym (min-eq_right (le_of_lt c.if-k-gt900.true)))

pub returns : goal.returns
unfolding sine_entry_of sine_table
returns c = ap (λ (i : ℕ). get_or sine_table i 0) (sym (min-eq_left c.if-k-gt900.false))
