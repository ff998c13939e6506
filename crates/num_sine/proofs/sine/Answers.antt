-- `num_sine::sine` meets its contract: an entry is at most 2^50, so its cast to f64 loses nothing.
use mathlib.Core.Path.{sym, ap, subst}
use Prim.Native.Nat.{ℕ}
use lib.Dec.{T}
use lib.IntN.{pos}
use lib.Ieee.{binary64, div, of_int, of_bits, in_float}
use borrow.Author.Rules.{rules}
use Rattle.num_sine.specs.Sine.{sine_of}
use Rattle.num_sine.proofs.Laws.{sine_entry_cast}
use Rattle.num_sine.proofs.sine.Goals as goal

pub int_to_float-result : goal.int_to_float-result
int_to_float-result c = subst (λ (n : ℕ). T (in_float binary64 (pos n))) (sym c.sine_entry-entry.ensures) (sine_entry_cast _)

pub returns : goal.returns
unfolding sine_of
returns c =
    ap (λ (n : ℕ). div binary64 (of_int binary64 (pos n)) (of_bits binary64 0x4310_0000_0000_0000)) c.sine_entry-entry.ensures
