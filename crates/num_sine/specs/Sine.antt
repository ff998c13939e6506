-- The sine by tenths of a degree, from the table, and the rules of the table. Definitions only.
use Rattle.std.specs.Prelude.{◌≡◌, List, ℕ, suc, ◌+◌, ◌-◌, ◌*◌, ◌^◌, ◌≤◌, ◌<◌, min, pos, length, get_or, Float}
use Rattle.std.specs.Float.{binary64}
use Rattle.std.specs.Float.Ieee.{div, of_int, of_bits}
use Rattle.num_sine.specs.Table.{sine_table}

-- The table's entry for an angle of k tenths of a degree. An angle over 900 counts as 900.
unfoldable pub sine_entry_of : ℕ → ℕ
unfolding sine_table
sine_entry_of k = get_or sine_table (min k 900) 0

-- Document 01, replacement 4: the entry divided by 2^50, as f64. The divisor's bits are those of 2^50.
unfoldable pub sine_of : ℕ → Float
unfolding sine_entry_of
sine_of k = div binary64 (of_int binary64 (pos (sine_entry_of k))) (of_bits binary64 0x4310_0000_0000_0000)

-- ---- The rules of a table S: document 01, replacement 4, "Rule of the table".
abbrev pub entry : List ℕ → ℕ → ℕ
entry S k = get_or S k 0

-- 2^100 times the squares of the sine and the cosine. The cosine is the sine of what is left to 90 degrees.
abbrev pub squares : List ℕ → ℕ → ℕ
squares S k = entry S k * entry S k + entry S (900 - k) * entry S (900 - k)

-- 2^100 times the sine of the angle and a tenth of a degree, by the addition theorem.
abbrev pub sum_sine : List ℕ → ℕ → ℕ
sum_sine S k = entry S k * entry S 899 + entry S (900 - k) * entry S 1

-- a and b differ by at most 2^52.
abbrev pub Near : ℕ → ℕ → Type 0
Near a b = (a ≤ b + 2 ^ 52) × (b ≤ a + 2 ^ 52)

pub record SineRules (S : List ℕ) : Type 0 where
  pub entries : length S ≡ 901
  pub first : entry S 0 ≡ 0
  pub last : entry S 900 ≡ 2 ^ 50
  pub rising : (k : ℕ) → k < 900 → entry S k ≤ entry S (suc k)
  pub squares_near : (k : ℕ) → k ≤ 900 → Near (squares S k) (2 ^ 100)
  pub sum_near : (k : ℕ) → k < 900 → Near (2 ^ 50 * entry S (suc k)) (sum_sine S k)
