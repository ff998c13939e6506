-- The order of signed fractions, and that rounding keeps it.
use mathlib.Core.Path.{◌≡◌, refl}
use mathlib.Core.Bool.{Bool, true, false, not, ◌&&◌, ◌||◌, cond}
use mathlib.Core.Logic.{⊎_elim}
use Prim.Native.Nat.{ℕ, zero, suc, ◌+◌, ◌-◌, ◌*◌, ◌^◌, ◌≤◌, ◌<◌}
use native.Mathlib.Nat.{eq_of_mul-eq-mul_right}
use native.Mathlib.Omega.{arith}
use lib.Dec.{ltb, eqb}
use lib.IntN.{ℤ}
use borrow.Author.Tests.{lt-ltb, le-ltb, ltb-true, eq-eqb, eqb-true}
use lib.Ieee.{Float, Format, nan, inf, fin, prec, low, emax, up, down, below, level, odd, units, round, sum, lt, eq, le, neg}
use lib.Ieee.Bits.{is_true}
use lib.Ieee.Order.{round_mono}
use Rattle.num_float.proofs.Tests.{contrary, and_left, and_right, lt_or_ge}
use Rattle.num_float.proofs.Order.{le_trans}
use Rattle.num_order.specs.Work.{over, under, AtMost}

-- ---- by cases
pub by_lt : (a b : ℕ) {A : Type 0} → (a < b → A) → (b ≤ a → A) → A
by_lt a b f g = ⊎_elim f g (lt_or_ge a b)

-- a test that both holds and fails gives anything
pub clash : {A : Type 0} (b : Bool) → b ≡ true → b ≡ false → A
clash {A} b p q = absurd {A = A} (contrary p q)

pub or_cases : {A : Type 0} (p q : Bool) → p || q ≡ true → (p ≡ true → A) → (q ≡ true → A) → A
or_cases true q h f g = f refl
or_cases false q h f g = g h

-- ---- a sign changes nothing but the sign
neg_odd : (k : ℕ) (q j l : ℕ) → odd k true q j l ≡ neg (odd k false q j l)
unfolding odd neg
neg_odd k zero j l = refl
neg_odd k (suc q) j l = refl

neg_cond : (b : Bool) (x y u v : Float) → x ≡ neg u → y ≡ neg v → cond b x y ≡ neg (cond b u v)
neg_cond true x y u v p q = p
neg_cond false x y u v p q = q

neg_inf : inf true ≡ neg (inf false)
unfolding neg
neg_inf = refl

neg_units : (f : Format) (q k : ℕ) → units f true q k ≡ neg (units f false q k)
unfolding units
neg_units f q k = neg_cond (ltb (q * 2 ^ k) (2 ^ (low f + suc (emax f)))) _ _ _ _ (neg_odd (suc (prec f)) q k (low f)) neg_inf

pub neg_round : (f : Format) (a c : ℕ) → round f true a c ≡ neg (round f false a c)
unfolding round
neg_round f a c = neg_units f _ _

-- ---- the order of two numbers with signs
or_r : (p : Bool) → p || true ≡ true
or_r true = refl
or_r false = refl

to : (s t : Bool) (a b : ℕ) → below s a t b || level s a t b ≡ true → over s a + under t b ≤ over t b + under s a
to false false a b h =
    or_cases (ltb a b) (eqb a b && true) h (λ p. omega (arith, ltb-true a b p)) (λ p. omega (arith, eqb-true a b (and_left (eqb a b) true p)))
to false true a b h = omega (arith, eqb-true a b (and_left (eqb a b) (eqb a 0) h), eqb-true a 0 (and_right (eqb a b) (eqb a 0) h))
to true false a b h = omega arith
to true true a b h =
    or_cases (ltb b a) (eqb a b && true) h (λ p. omega (arith, ltb-true b a p)) (λ p. omega (arith, eqb-true a b (and_left (eqb a b) true p)))

from : (s t : Bool) (a b : ℕ) → over s a + under t b ≤ over t b + under s a → below s a t b || level s a t b ≡ true
from false false a b h = by_lt a b (λ l. rw (lt-ltb a b l)) (λ l. rw (eq-eqb a b (omega arith)) (or_r (ltb a b)))
from false true a b h = rw (eq-eqb a b (omega arith), eq-eqb a 0 (omega arith))
from true false a b h =
    by_lt 0 (a + b) (λ l. rw (lt-ltb 0 (a + b) l)) (λ l. rw (eq-eqb a b (omega arith), eq-eqb a 0 (omega arith)) (or_r (ltb 0 (a + b))))
from true true a b h = by_lt b a (λ l. rw (lt-ltb b a l)) (λ l. rw (eq-eqb a b (omega arith)) (or_r (ltb b a)))

scaled : (s t : Bool) (a b c d : ℕ) → over s (a * d) + under t (b * c) ≤ over t (b * c) + under s (a * d) → AtMost s a c t b d
scaled false false a b c d h = omega arith
scaled false true a b c d h = omega arith
scaled true false a b c d h = omega arith
scaled true true a b c d h = omega arith

scaled' : (s t : Bool) (a b c d : ℕ) → AtMost s a c t b d → over s (a * d) + under t (b * c) ≤ over t (b * c) + under s (a * d)
scaled' false false a b c d h = omega arith
scaled' false true a b c d h = omega arith
scaled' true false a b c d h = omega arith
scaled' true true a b c d h = omega arith

pub le_at_most : (s t : Bool) (m n : ℕ) (e d : ℤ) → le (fin s m e) (fin t n d) ≡ true → AtMost s (m * up e) (down e) t (n * up d) (down d)
unfolding le lt eq
le_at_most s t m n e d h = scaled s t (m * up e) (n * up d) (down e) (down d) (to s t (m * up e * down d) (n * up d * down e) h)

pub at_most_le : (s t : Bool) (m n : ℕ) (e d : ℤ) → AtMost s (m * up e) (down e) t (n * up d) (down d) → le (fin s m e) (fin t n d) ≡ true
unfolding le lt eq
at_most_le s t m n e d h = from s t (m * up e * down d) (n * up d * down e) (scaled' s t (m * up e) (n * up d) (down e) (down d) h)

flip : (s t : Bool) (a c b d : ℕ) → AtMost s a c t b d → AtMost (not t) b d (not s) a c
flip false false a c b d h = omega arith
flip false true a c b d h = omega arith
flip true false a c b d h = omega arith
flip true true a c b d h = omega arith

pub neg_le : (x y : Float) → le x y ≡ true → le (neg y) (neg x) ≡ true
unfolding le lt eq neg
neg_le nan y h = cc
neg_le (inf s) nan h = cc
neg_le (inf true) (inf true) h = refl
neg_le (inf true) (inf false) h = refl
neg_le (inf false) (inf true) h = cc
neg_le (inf false) (inf false) h = refl
neg_le (inf true) (fin t n d) h = refl
neg_le (inf false) (fin t n d) h = cc
neg_le (fin s m e) nan h = cc
neg_le (fin s m e) (inf true) h = cc
neg_le (fin s m e) (inf false) h = refl
neg_le (fin s m e) (fin t n d) h = at_most_le (not t) (not s) n m d e (flip s t (m * up e) (down e) (n * up d) (down d) (le_at_most s t m n e d h))

-- ---- rounding
abbrev B : Format
B = lib.Ieee.binary64

zeros : le (round B false 0 1) (round B true 0 1) ≡ true
unfolding le lt eq round units odd
zeros = refl

zeros' : le (round B true 0 1) (round B false 0 1) ≡ true
unfolding le lt eq round units odd
zeros' = refl

one_pos : 0 < 1
one_pos = omega arith

mono : (a c b d : ℕ) → 0 < c → 0 < d → a * d ≤ b * c → le (round B false a c) (round B false b d) ≡ true
mono a c b d C D h = is_true _ (round_mono B a c b d C D h)

mono' : (a c b d : ℕ) → 0 < c → 0 < d → b * c ≤ a * d → le (round B true a c) (round B true b d) ≡ true
mono' a c b d C D h = rw (neg_round B a c, neg_round B b d) (neg_le _ _ (mono b d a c D C h))

none : (a d : ℕ) → 0 < d → a * d ≤ 0 → a ≡ 0
none a d D h = eq_of_mul-eq-mul_right d D a 0 (omega arith)

pub round_le : (s t : Bool) (a c b d : ℕ) → 0 < c → 0 < d → AtMost s a c t b d → le (round B s a c) (round B t b d) ≡ true
round_le false false a c b d C D h = mono a c b d C D (omega arith)
round_le true true a c b d C D h = mono' a c b d C D (omega arith)
round_le true false a c b d C D h =
    le_trans _ _ _ (mono' a c 0 1 C one_pos (omega arith)) (le_trans _ _ _ zeros' (mono 0 1 b d one_pos D (omega arith)))
round_le false true a c b d C D h =
    let x : a ≡ 0 = none a d D (omega arith) in
    let y : b ≡ 0 = none b c C (omega arith) in
    rw (x, y) (le_trans _ _ _ (mono 0 c 0 1 C one_pos (omega arith)) (le_trans _ _ _ zeros (mono' 0 1 0 d one_pos D (omega arith))))

-- ---- a sum is the rounded sum
pub record Sum (s : Bool) (a : ℕ) (t : Bool) (b c : ℕ) : Type 0 where
  pub sign : Bool
  pub size : ℕ
  pub is : sum B s a t b c ≡ round B sign size c
  pub value : over sign size + (under s a + under t b) ≡ under sign size + (over s a + over t b)

pub sum_is : (s t : Bool) (a b c : ℕ) → Sum s a t b c
unfolding sum
sum_is false false a b c = record { sign = false; size = a + b; is = refl; value = omega arith }
sum_is true true a b c = record { sign = true; size = a + b; is = refl; value = omega arith }
sum_is false true a b c =
    by_lt a b
    (λ l. record { sign = true; size = b - a; is = rw (lt-ltb a b l); value = omega arith })
    (λ l. record { sign = false; size = a - b; is = rw (le-ltb a b l); value = omega arith })
sum_is true false a b c =
    by_lt a b
    (λ l. record { sign = false; size = b - a; is = rw (lt-ltb a b l); value = omega arith })
    (λ l. by_lt b a
    (λ k. record { sign = true; size = a - b; is = rw (le-ltb a b l, lt-ltb b a k); value = omega arith })
    (λ k. record { sign = false; size = a - b; is = rw (le-ltb a b l, le-ltb b a k); value = omega arith }))
