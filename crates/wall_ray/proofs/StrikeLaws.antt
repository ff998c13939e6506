-- The test of a direction that runs along a plane, in the words of the code.
use mathlib.Core.Path.{◌≡◌, refl, sym}
use mathlib.Core.Bool.{true, false, ◌&&◌}
use Prim.Native.Nat.{ℕ, ◌+◌, ◌*◌}
use native.Mathlib.Omega.{arith}
use lib.Dec.{ltb}
use lib.Ieee.{Float, nan, inf, fin, up, down, lt, neg, of_bits}
use borrow.Author.Tests.{ltb-true, lt-ltb}
use Rattle.num_float.proofs.Tests.{contrary, and_true, and_left, and_right, same_test}
use Rattle.num_real.specs.Select.{abs_of}
use Rattle.math.specs.Vector.{zero}
use Rattle.wall_ray.specs.Strike.{e_12}

-- ---- the test
-- what is more than some number is more than 0
left_more : (a b : ℕ) → ltb a b ≡ (ltb a b && ltb 0 (a + b))
left_more a b =
    same_test (ltb a b) (ltb a b && ltb 0 (a + b)) (λ h. and_true (ltb a b) (ltb 0 (a + b)) h (lt-ltb 0 (a + b) (omega (arith, ltb-true a b h))))
    (and_left (ltb a b) (ltb 0 (a + b)))

right_more : (a b : ℕ) → ltb a b ≡ (ltb 0 (a + b) && ltb a b)
right_more a b =
    same_test (ltb a b) (ltb 0 (a + b) && ltb a b) (λ h. and_true (ltb 0 (a + b)) (ltb a b) (lt-ltb 0 (a + b) (omega (arith, ltb-true a b h))) h)
    (and_right (ltb 0 (a + b)) (ltb a b))

-- |x| < c by x < c and -x < c, for c above zero
pub abs_below : (x c : Float) → lt zero c ≡ true → lt (abs_of x) c ≡ (lt x c && lt (neg x) c)
unfolding lt abs_of neg of_bits
abs_below nan c h = refl
abs_below (inf true) nan h = absurd (contrary refl (sym h))
abs_below (inf false) nan h = absurd (contrary refl (sym h))
abs_below (fin s m e) nan h = absurd (contrary refl (sym h))
abs_below (inf true) (inf true) h = refl
abs_below (inf true) (inf false) h = refl
abs_below (inf false) (inf s) h = refl
abs_below (inf true) (fin s n d) h = refl
abs_below (inf false) (fin s n d) h = refl
abs_below (fin s m e) (inf true) h = absurd (contrary refl (sym h))
abs_below (fin s m e) (inf false) h = refl
abs_below (fin s m e) (fin true n d) h = absurd (contrary refl (sym h))
abs_below (fin false m e) (fin false n d) h = left_more (m * up e * down d) (n * up d * down e)
abs_below (fin true m e) (fin false n d) h = right_more (m * up e * down d) (n * up d * down e)

pub positive_e_12 : lt zero e_12 ≡ true
unfolding lt of_bits
positive_e_12 = refl
