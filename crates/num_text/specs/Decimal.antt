-- The decimal text of a float, and when the writer refuses. Definitions only.
use Rattle.std.specs.Prelude.{◌≡◌, List, [], ◌++◌, Bool, false, ◌&&◌, cond, ℕ, ◌*◌, ◌/◌, ◌%◌, ◌^◌, pos, leb, length, drop, Float, Result, Ok, Err}
use Rattle.std.specs.Float.{fin}
use Rattle.std.specs.Float.Ieee.{le, lt}
use Rattle.std.specs.Float.Ieee.Nearest.{closest}
use Rattle.std.specs.Float.Ieee.Positive.{num, den}
use Rattle.refusal.specs.declared.Refusal.{Refusal}
use Rattle.refusal.specs.declared.Refusal.TheVariants.{NoDecimal}
use Rattle.refusal.specs.Numbers.{number, no_decimal}
use Rattle.num_text.specs.Number.{positional, digits, numeral, after_point}

-- ---- the text
-- "Decimals round the exact value; an exact half goes to the even digit": the size of x, num / den, times 10 ^ p, to the nearest whole number.
-- The sign plays no part, so that "minus zero prints as zero"
unfoldable pub scaled : Float → ℕ → ℕ
scaled x p = closest (num x * 10 ^ p) (den x)

-- n / 10 ^ p with p places
unfoldable pub pointed : ℕ → ℕ → List ℕ
unfolding numeral after_point positional
pointed p n = numeral (n / 10 ^ p) ++ after_point (digits p (n % 10 ^ p))

-- x with p places
unfoldable pub text : Float → ℕ → List ℕ
unfolding scaled pointed
text x p = pointed p (scaled x p)

-- ---- refusal 13: "number not finite, below 0, or 2^60 and more; places over 3; buffer under 24 bytes"
abbrev pub zero : Float
zero = fin false 0 (pos 0)

-- 2 ^ 60
abbrev pub limit : Float
limit = fin false 1 (pos 60)

-- neither the number nor the places are refused. A NaN fails both tests of the number, an infinity one of them; minus zero passes
unfoldable pub accepted : Float → ℕ → Bool
accepted x p = le zero x && lt x limit && leb p 3

-- and the buffer is not
unfoldable pub taken : Float → ℕ → ℕ → Bool
unfolding accepted
taken x p room = accepted x p && leb 24 room

-- the number of the refusal in the table, 0 for none
unfoldable pub refusal : Result ℕ Refusal → ℕ
refusal (Ok n) = 0
refusal (Err e) = number e

-- The answer r to x with p places, and the buffer before and after the call.
-- "An accepted report or decimal fills the first bytes of its buffer and changes none after them"; a refusal changes nothing.
pub record Writes (x : Float) (p : ℕ) (before after : List ℕ) (r : Result ℕ Refusal) : Type 0 where
  pub answer : r ≡ cond (taken x p (length before)) (Ok (length (text x p))) (Err NoDecimal)
  pub number : refusal r ≡ cond (taken x p (length before)) 0 no_decimal
  pub buffer : after ≡ cond (taken x p (length before)) (text x p ++ drop (length (text x p)) before) before

-- what is written at a position, where no slice is too short: nothing where the number or the places are refused
unfoldable pub decimal_text : Float → ℕ → List ℕ
unfolding accepted text
decimal_text x p = cond (accepted x p) (text x p) []
