-- `num_text::text::digits_of_bits` meets its contract. The invariant: the k highest digits are written.
use mathlib.Core.List.{List}
use Prim.Native.Nat.{ℕ, ◌-◌, ◌*◌, ◌/◌, ◌^◌}
use Rattle.num_text.specs.Number.{positional, hex_digit}
use Rattle.num_text.specs.Put.{Put}
use Rattle.num_text.proofs.text.digits_of_bits.Given as goal

-- the k highest of 16 digits
abbrev pub highest : ℕ → ℕ → List ℕ
highest k n = positional 16 hex_digit k (n / 2 ^ (64 - 4 * k))

abbrev pub invariant-loop-k : goal.invariant-loop-k
invariant-loop-k l = Put l.initial.out l.at (highest l.k l.bits) l.out l.next
