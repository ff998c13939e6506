-- `file_field::test::zero_words` meets its contract.
use mathlib.Core.Path.{◌≡◌}
use mathlib.Core.Bool.{true}
use Rattle.file_field.specs.Test.{zero_words}
use Rattle.file_field.proofs.test.zero_words.Given as goal

abbrev pub invariant-loop-k : goal.invariant-loop-k
invariant-loop-k l = zero_words l.file l.at l.k ≡ true
