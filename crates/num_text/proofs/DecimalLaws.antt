-- Laws of the decimal writer: which numbers it takes, how long their text is, and what a call leaves.
use mathlib.Core.Path.{◌≡◌, refl, sym, ap, ◌∙◌, subst}
use mathlib.Core.Bool.{Bool, true, false, not, ◌&&◌, cond}
use mathlib.Core.List.{List, [], ◌∷◌, ◌++◌}
use Prim.Native.Nat.{ℕ, suc, zero-le, ◌+◌, ◌*◌, ◌/◌, ◌%◌, ◌^◌, ◌≤◌, ◌<◌}
use native.Mathlib.Nat.{le_trans, le_of_eq, le_of_lt, lt_of_le_of_lt, mul-one, one-mul, mul_comm, mul_right_comm, mul-le-mul_right, div-le_of_le-mul, zero-add}
use native.Mathlib.Omega.{arith}
use lib.Dec.{T, leb, eqb, ltb→lt, lt→ltb, nltb→le, leb→le, eqb→eq, lit<}
use lib.ListN.{length, take, drop, length-append}
use lib.Seq.{take_at}
use lib.Ieee.{Float, nan, inf, fin, binary64, up, down, of_bits, le, lt, eq}
use lib.Ieee.Bits.{is_true}
use lib.Ieee.Fits.{down_pos, and_l}
use lib.Ieee.Nearest.{closest_mono}
use lib.Ieee.Order.{le_of_values}
use lib.Ieee.Positive.{num, den, den_pos}
use lib.Ieee.Scale.{finite}
use borrow.Author.Tests.{le-leb, lt-leb}
use Rattle.std.specs.Prelude.{Result, Ok, Err}
use Rattle.refusal.specs.declared.Refusal.{Refusal}
use Rattle.refusal.specs.declared.Refusal.TheVariants.{NoDecimal}
use Rattle.num_text.specs.Decimal.{scaled, pointed, text, zero, limit, accepted, taken, refusal, Writes, decimal_text}
use Rattle.num_text.specs.Work.{Divided}
use Rattle.num_text.specs.Number.{digits, numeral, after_point, width}
use Rattle.num_text.specs.Put.{Put}
use Rattle.num_text.proofs.NumberLaws.{length_digits, length_numeral, width_le}
use Rattle.num_text.proofs.PutLaws.{put_same, put_measures_lem, put_front}
use Rattle.num_text.proofs.Rounding.{closest_whole}

-- ---- the two constants, as the code has them
zero_is : of_bits binary64 0 ≡ zero
unfolding of_bits
zero_is = refl

limit_is : of_bits binary64 0x43b0_0000_0000_0000 ≡ limit
unfolding of_bits
limit_is = refl

pub from_zero : (x : Float) (b : Bool) → le (of_bits binary64 0) x ≡ b → le zero x ≡ b
from_zero x b h = ap (λ (k : Float). le k x) (sym zero_is) ∙ h

pub to_limit : (x : Float) (b : Bool) → lt x (of_bits binary64 0x43b0_0000_0000_0000) ≡ b → lt x limit ≡ b
to_limit x b h = ap (λ (k : Float). lt x k) (sym limit_is) ∙ h

-- ---- the numbers between them, in words
times_one : (n p d : ℕ) → n * 1 < 1 * p * d → n < p * d
times_one n p d h = subst (λ (k : ℕ). n < k * d) (one-mul p) (subst (λ (k : ℕ). k < 1 * p * d) (mul-one n) h)

one_times : (n p d : ℕ) → n < p * d → n * 1 < 1 * p * d
one_times n p d h = subst (λ (k : ℕ). k < 1 * p * d) (sym (mul-one n)) (subst (λ (k : ℕ). n < k * d) (sym (one-mul p)) h)

-- both tests passed: below 2 ^ 60
pub below_limit : (x : Float) → T (le zero x) → T (lt x limit) → num x < 2 ^ 60 * den x
unfolding le lt eq
below_limit nan a b = absurd a
below_limit (inf true) a b = absurd a
below_limit (inf false) a b = absurd b
below_limit (fin false m e) a b = times_one (m * up e) (2 ^ 60) (down e) (ltb→lt (m * up e * 1) (1 * 2 ^ 60 * down e) b)
below_limit (fin true m e) a b =
    let z : 0 * down e ≡ m * up e * 1 = eqb→eq (0 * down e) (m * up e * 1) (and_l (eqb (0 * down e) (m * up e * 1)) (eqb (0 * down e) 0) a) in
    none (m * up e) (down e) z (down_pos e)
  where
    none : (n d : ℕ) → 0 * d ≡ n * 1 → 0 < d → n < 1152921504606846976 * d
    none n d e h = omega arith

-- finite and not negative
not_below_zero : (x : Float) → T (finite x) → T (not (lt x zero)) → T (le zero x)
unfolding le lt eq
not_below_zero nan f a = absurd f
not_below_zero (inf s) f a = absurd f
not_below_zero (fin false m e) f a = le_of_values zero (fin false m e) 0 1 (m * up e) (down e) (lit< tt) (down_pos e) (refl, refl) (refl, refl) (least (m * up e) (down e))
  where
    least : (n d : ℕ) → 0 * d ≤ n * 1
    least n d = omega arith
not_below_zero (fin true m e) f a = both (m * up e) (down e) (nltb→le 0 (m * up e * 1 + 0 * down e) a)
  where
    both : (n d : ℕ) → n * 1 + 0 * d ≤ 0 → T (eqb (0 * d) (n * 1) && eqb (0 * d) 0)
    both n d h =
        let zero-l : 0 ≡ 0 * d = omega arith in
        let zero-r : 0 ≡ n * 1 = omega arith in
        subst (λ (a : ℕ). T (eqb a (n * 1) && eqb a 0)) zero-l (subst (λ (b : ℕ). T (eqb 0 b && true)) zero-r tt)

-- finite and below 2 ^ 60
lt_limit : (x : Float) → T (finite x) → num x < 2 ^ 60 * den x → T (lt x limit)
unfolding lt
lt_limit nan f h = absurd f
lt_limit (inf s) f h = absurd f
lt_limit (fin false m e) f h = lt→ltb (m * up e * 1) (1 * 2 ^ 60 * down e) (one_times (m * up e) (2 ^ 60) (down e) h)
lt_limit (fin true m e) f h = lt→ltb 0 (m * up e * 1 + 1 * 2 ^ 60 * down e) (some (m * up e) (down e) (down_pos e))
  where
    some : (n d : ℕ) → 0 < d → 0 < n * 1 + 1 * 1152921504606846976 * d
    some n d h = omega arith

-- a number that is finite, not negative and below 2 ^ 60 passes both tests
pub in_range_lem : (x : Float) → T (finite x) → T (not (lt x zero)) → num x < 2 ^ 60 * den x → T (le zero x) × T (lt x limit)
in_range_lem x f a h = (not_below_zero x f a, lt_limit x f h)

-- ---- the length of the text
-- the whole number before the point
pub whole_lt : (x : Float) (p : ℕ) → num x < 2 ^ 60 * den x → scaled x p / 10 ^ p < 10 ^ 19
unfolding scaled
whole_lt x p h =
    let ten = 10 ^ p in
    let product : num x * ten * 1 ≤ 2 ^ 60 * ten * den x =
    le_trans (le_of_eq (mul-one (num x * ten))) (le_trans (mul-le-mul_right ten (le_of_lt h)) (le_of_eq (mul_right_comm (2 ^ 60) (den x) ten))) in
    let bound : scaled x p ≤ 2 ^ 60 * ten =
    le_trans (closest_mono (num x * ten) (den x) (2 ^ 60 * ten) 1 (den_pos x) (lit< tt) product) (le_of_eq (closest_whole (2 ^ 60 * ten))) in
    lt_of_le_of_lt (div-le_of_le-mul ten (le_trans bound (le_of_eq (mul_comm (2 ^ 60) ten)))) (lit< tt)

length_after : (ds : List ℕ) → length (after_point ds) ≤ suc (length ds)
unfolding after_point
length_after [] = omega arith
length_after (d ∷ ds) = omega arith

pub text_length : (x : Float) (p : ℕ) → T (le zero x) → T (lt x limit) → p ≤ 3 → length (text x p) ≤ 23
unfolding text pointed
text_length x p above below P =
    let w = scaled x p / 10 ^ p in
    let ds = digits p (scaled x p % 10 ^ p) in
    let a : width w ≤ 19 = width_le w 19 (lit< tt) (whole_lt x p (below_limit x above below)) in
    omega (arith, length-append (numeral w) (after_point ds), length_numeral w, length_after ds, length_digits p (scaled x p % 10 ^ p))

-- ---- the tests together
and_true : (a b : Bool) → a ≡ true → b ≡ true → (a && b) ≡ true
and_true a b h k = rw (h, k)

and_false_l : (a b : Bool) → a ≡ false → (a && b) ≡ false
and_false_l a b h = rw h

and_false_r : (a b : Bool) → b ≡ false → (a && b) ≡ false
and_false_r true b h = h
and_false_r false b h = refl

module _ (x : Float) (p : ℕ) where
  pub accepts : T (le zero x) → T (lt x limit) → p ≤ 3 → accepted x p ≡ true
  unfolding accepted
  accepts a b c =
      and_true (le zero x && lt x limit) (leb p 3) (and_true (le zero x) (lt x limit) (is_true (le zero x) a) (is_true (lt x limit) b)) (le-leb p 3 c)

  -- a number that is accepted is written
  pub accepted_text : accepted x p ≡ true → decimal_text x p ≡ text x p
  unfolding decimal_text
  accepted_text e = rw e

  -- so nothing at a position is longer than 23 bytes
  pub decimal_text_length : length (decimal_text x p) ≤ 23
  unfolding decimal_text accepted
  decimal_text_length = go (le zero x) (lt x limit) (leb p 3) (λ (a : T (le zero x)) (b : T (lt x limit)) (c : T (leb p 3)). text_length x p a b (leb→le p 3 c))
    where
      go : (a b c : Bool) → (T a → T b → T c → length (text x p) ≤ 23) → length (cond (a && b && c) (text x p) []) ≤ 23
      go true true true h = h tt tt tt
      go true true false h = zero-le
      go true false c h = zero-le
      go false b c h = zero-le

  -- and no call with room for it is refused
  pub never_refused : {before after : List ℕ} {r : Result ℕ Refusal} → T (le zero x) → T (lt x limit) → p ≤ 3 → 24 ≤ length before → Writes x p before after r
      → (r ≡ Ok (length (text x p))) × (refusal r ≡ 0) × (after ≡ text x p ++ drop (length (text x p)) before)
  unfolding taken
  never_refused {before} {after} {r} a b c d w =
      let t : taken x p (length before) ≡ true = and_true (accepted x p) (leb 24 (length before)) (accepts a b c) (le-leb 24 (length before) d) in
      (w.answer ∙ rw t, w.number ∙ rw t, w.buffer ∙ rw t)

-- ---- what a call leaves
module _ (x : Float) (p : ℕ) (l : List ℕ) where
  refuse : taken x p (length l) ≡ false → Writes x p l l (Err NoDecimal)
  unfolding refusal
  refuse h = record { answer = rw h; number = rw h; buffer = rw h }

  pub refuse_negative : le zero x ≡ false → Writes x p l l (Err NoDecimal)
  unfolding taken
  refuse_negative h = refuse (and_false_l (accepted x p) (leb 24 (length l)) (and_false_l (le zero x && lt x limit) (leb p 3) (and_false_l (le zero x) (lt x limit) h)))

  pub refuse_large : lt x limit ≡ false → Writes x p l l (Err NoDecimal)
  unfolding taken
  refuse_large h = refuse (and_false_l (accepted x p) (leb 24 (length l)) (and_false_l (le zero x && lt x limit) (leb p 3) (and_false_r (le zero x) (lt x limit) h)))

  pub refuse_places : 3 < p → Writes x p l l (Err NoDecimal)
  unfolding taken
  refuse_places h = refuse (and_false_l (accepted x p) (leb 24 (length l)) (and_false_r (le zero x && lt x limit) (leb p 3) (lt-leb p 3 h)))

  pub refuse_short : length l < 24 → Writes x p l l (Err NoDecimal)
  unfolding taken
  refuse_short h = refuse (and_false_r (accepted x p) (leb 24 (length l)) (lt-leb 24 (length l) h))

  -- the whole number and the fraction, written from the start
  pub accept : T (le zero x) → T (lt x limit) → p ≤ 3 → 24 ≤ length l → {after : List ℕ} {w r n : ℕ} → Divided (scaled x p) (10 ^ p) w r
      → Put l 0 (numeral w ++ after_point (digits p r)) after n → Writes x p l after (Ok n)
  unfolding taken text pointed refusal
  accept a b c d {after} {w} {r} {n} q put =
      let t : taken x p (length l) ≡ true = and_true (accepted x p) (leb 24 (length l)) (accepts x p a b c) (le-leb 24 (length l) d) in
      let same : numeral w ++ after_point (digits p r) ≡ text x p =
      ap (λ (k : ℕ). numeral k ++ after_point (digits p r)) q.quotient_is ∙ ap (λ (k : ℕ). numeral (scaled x p / 10 ^ p) ++ after_point (digits p k)) q.rest_is in
      let written : Put l 0 (text x p) after n = put_same _ _ same put in
      let short : length (text x p) ≤ 23 = text_length x p a b c in
      record {
        answer = ap Ok (put_measures_lem (text x p) written (omega arith) ∙ zero-add (length (text x p))) ∙ sym (rw t);
        number = sym (rw t);
        buffer = put_front (text x p) written (omega arith) ∙ sym (rw t);
      }

-- ---- what the answer tells of a call with room
module _ (x : Float) (p : ℕ) {before after : List ℕ} {r : Result ℕ Refusal} (w : Writes x p before after r) (room : 24 ≤ length before) where
  taken_is : taken x p (length before) ≡ accepted x p
  unfolding taken
  taken_is = rw (le-leb 24 (length before) room) (and_true_r (accepted x p))
    where
      and_true_r : (a : Bool) → (a && true) ≡ a
      and_true_r true = refl
      and_true_r false = refl

  answer_is : r ≡ cond (accepted x p) (Ok (length (text x p))) (Err NoDecimal)
  answer_is = w.answer ∙ ap (λ (b : Bool). cond b (Ok (length (text x p))) (Err NoDecimal)) taken_is

  pub refused_text : {e : Refusal} → r ≡ Err e → decimal_text x p ≡ []
  unfolding decimal_text
  refused_text {e} h = go (accepted x p) (text x p) (sym h ∙ answer_is)
    where
      go : (b : Bool) (l : List ℕ) → Err e ≡ cond b (Ok (length (text x p))) (Err NoDecimal) → cond b l [] ≡ []
      go true l k = cc
      go false l k = refl

  pub written_text : {n : ℕ} → r ≡ Ok n → (n ≡ length (decimal_text x p)) × (after ≡ decimal_text x p ++ drop n before)
  unfolding decimal_text
  written_text {n} e =
      let yes : accepted x p ≡ true = go (accepted x p) (sym e ∙ answer_is) in
      let t : taken x p (length before) ≡ true = taken_is ∙ yes in
      let same : r ≡ Ok (length (text x p)) = w.answer ∙ (rw t) in
      let is : n ≡ length (text x p) = cc in
      let filled : after ≡ text x p ++ drop (length (text x p)) before = w.buffer ∙ (rw t) in
      rw yes (is, rw is filled)
    where
      go : (b : Bool) → Ok n ≡ cond b (Ok (length (text x p))) (Err NoDecimal) → b ≡ true
      go true k = refl
      go false k = cc

  -- so the text is what stands in the first n bytes
  pub written_within : {n : ℕ} → r ≡ Ok n → n ≤ length after
  written_within {n} e =
      let t = written_text e in
      omega (arith, t.0, ap length t.1, length-append (decimal_text x p) (drop n before))

  pub written_front : {n : ℕ} → r ≡ Ok n → take n after ≡ decimal_text x p
  written_front {n} e =
      let t = written_text e in
      ap (take n) t.1 ∙ take_at (decimal_text x p) (drop n before) n (sym t.0)
