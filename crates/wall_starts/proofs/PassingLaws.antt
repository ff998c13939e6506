-- Laws on the numbers that pass a test.
use mathlib.Core.Path.{◌≡◌, refl, sym, ap, ◌∙◌, subst}
use mathlib.Core.Bool.{Bool, true, false, cond}
use mathlib.Core.List.{List, [], ◌∷◌, ◌++◌}
use mathlib.Core.Logic.{◌⊎◌, inl, inr}
use Prim.Native.Nat.{ℕ, zero, suc, ◌+◌, ◌≤◌, ◌<◌}
use native.Mathlib.Omega.{arith}
use native.Mathlib.Numerals.{add-one}
use lib.ListN.{length, get_or, length-append, get_or-append}
use lib.Seq.{get_or-append_seam}
use Rattle.num_float.proofs.Tests.{lt_or_ge}
use Rattle.list_laws.specs.Below.{count_below}
use Rattle.list_laws.proofs.Count.{count_none, count_more, count_same}

-- the numbers below n that pass a test, rising
unfoldable pub passing : (ℕ → Bool) → ℕ → List ℕ
passing test zero = []
passing test (suc n) = cond (test n) (passing test n ++ (n ∷ [])) (passing test n)

-- ---- a number more at the end of a list
pub snoc_length : (xs : List ℕ) (x : ℕ) → length (xs ++ (x ∷ [])) ≡ length xs + 1
snoc_length xs x = length-append xs (x ∷ [])

pub snoc_before : (xs : List ℕ) (x i : ℕ) → i < length xs → get_or (xs ++ (x ∷ [])) i 0 ≡ get_or xs i 0
snoc_before xs x i l = get_or-append xs (x ∷ []) 0 i l

pub snoc_last : (xs : List ℕ) (x i : ℕ) → i ≡ length xs → get_or (xs ++ (x ∷ [])) i 0 ≡ x
snoc_last xs x i e = ap (λ (k : ℕ). get_or (xs ++ (x ∷ [])) k 0) e ∙ get_or-append_seam xs x [] 0

-- ---- one number more to test
pub passing_none : (test : ℕ → Bool) → passing test 0 ≡ []
unfolding passing
passing_none test = refl

passing_suc : (test : ℕ → Bool) (n : ℕ) → passing test (suc n) ≡ cond (test n) (passing test n ++ (n ∷ [])) (passing test n)
unfolding passing
passing_suc test n = refl

pub passing_more : (test : ℕ → Bool) (n : ℕ) → passing test (n + 1) ≡ cond (test n) (passing test n ++ (n ∷ [])) (passing test n)
passing_more test n = rw (add-one, passing_suc test n)

pub passing_yes : (test : ℕ → Bool) (n : ℕ) → test n ≡ true → passing test (n + 1) ≡ passing test n ++ (n ∷ [])
passing_yes test n h = rw (passing_more test n, h)

pub passing_no : (test : ℕ → Bool) (n : ℕ) → test n ≡ false → passing test (n + 1) ≡ passing test n
passing_no test n h = rw (passing_more test n, h)

-- ---- what they are
pub passing_count : (test : ℕ → Bool) (n : ℕ) → length (passing test n) ≡ count_below n test
passing_count test zero = ap length (passing_none test) ∙ sym (count_none test)
passing_count test (suc n) =
    subst (λ (k : ℕ). length (passing test k) ≡ count_below k test) (add-one n) (go (test n) refl (passing_count test n))
  where
    go : (b : Bool) → test n ≡ b → length (passing test n) ≡ count_below n test → length (passing test (n + 1)) ≡ count_below (n + 1) test
    go true e h = ap length (passing_yes test n e) ∙ snoc_length (passing test n) n ∙ ap (λ (k : ℕ). k + 1) h ∙ sym (count_more n test e)
    go false e h = ap length (passing_no test n e) ∙ h ∙ sym (count_same n test e)

-- the number at a place is below n and passes
pub record Passes (test : ℕ → Bool) (n q : ℕ) : Type 0 where
  pub below : q < n
  pub true_of : test q ≡ true

passes_more : (test : ℕ → Bool) (n q : ℕ) → Passes test n q → Passes test (n + 1) q
passes_more test n q h = record { below = omega (arith, h.below); true_of = h.true_of }

pub passing_each : (test : ℕ → Bool) (n i : ℕ) → i < length (passing test n) → Passes test n (get_or (passing test n) i 0)
passing_each test zero i l = absurd (omega (arith, l, ap length (passing_none test)))
passing_each test (suc n) i l =
    subst (λ (k : ℕ). Passes test k (get_or (passing test k) i 0)) (add-one n)
    (go (test n) refl (passing_each test n i) (subst (λ (k : ℕ). i < length (passing test k)) (sym (add-one n)) l))
  where
    last : (i < length (passing test n) → Passes test n (get_or (passing test n) i 0)) → i < length (passing test n) + 1 → test n ≡ true
        → (i < length (passing test n)) ⊎ (length (passing test n) ≤ i) → Passes test (n + 1) (get_or (passing test n ++ (n ∷ [])) i 0)
    last before low e (inl below) =
        subst (Passes test (n + 1)) (sym (snoc_before (passing test n) n i below)) (passes_more test n _ (before below))
    last before low e (inr above) =
        let here : i ≡ length (passing test n) = omega (arith, low, above) in
        subst (Passes test (n + 1)) (sym (snoc_last (passing test n) n i here)) (record { below = omega arith; true_of = e })

    go : (b : Bool) → test n ≡ b → (i < length (passing test n) → Passes test n (get_or (passing test n) i 0)) → i < length (passing test (n + 1))
        → Passes test (n + 1) (get_or (passing test (n + 1)) i 0)
    go true e before low =
        let longer = ap length (passing_yes test n e) ∙ snoc_length (passing test n) n in
        subst (λ (xs : List ℕ). Passes test (n + 1) (get_or xs i 0)) (sym (passing_yes test n e))
        (last before (omega (arith, low, longer)) e (lt_or_ge i (length (passing test n))))
    go false e before low =
        subst (λ (xs : List ℕ). Passes test (n + 1) (get_or xs i 0)) (sym (passing_no test n e))
        (passes_more test n _ (before (omega (arith, low, ap length (passing_no test n e)))))

-- each stands lower than those at its right
pub passing_rises : (test : ℕ → Bool) (n i j : ℕ) → i < j → j < length (passing test n) → get_or (passing test n) i 0 < get_or (passing test n) j 0
passing_rises test zero i j h l = absurd (omega (arith, l, ap length (passing_none test)))
passing_rises test (suc n) i j h l =
    subst (λ (k : ℕ). get_or (passing test k) i 0 < get_or (passing test k) j 0) (add-one n)
    (go (test n) refl (passing_rises test n i j h) (subst (λ (k : ℕ). j < length (passing test k)) (sym (add-one n)) l))
  where
    last : (j < length (passing test n) → get_or (passing test n) i 0 < get_or (passing test n) j 0) → j < length (passing test n) + 1
        → (j < length (passing test n)) ⊎ (length (passing test n) ≤ j) → get_or (passing test n ++ (n ∷ [])) i 0 < get_or (passing test n ++ (n ∷ [])) j 0
    last before low (inl below) =
        omega (arith, before below, snoc_before (passing test n) n j below, snoc_before (passing test n) n i (omega (arith, h, below)))
    last before low (inr above) =
        let here : j ≡ length (passing test n) = omega (arith, low, above) in
        let left : i < length (passing test n) = omega (arith, h, here) in
        omega (arith, snoc_last (passing test n) n j here, snoc_before (passing test n) n i left, (passing_each test n i left).below)

    go : (b : Bool) → test n ≡ b → (j < length (passing test n) → get_or (passing test n) i 0 < get_or (passing test n) j 0) → j < length (passing test (n + 1))
        → get_or (passing test (n + 1)) i 0 < get_or (passing test (n + 1)) j 0
    go true e before low =
        let longer = ap length (passing_yes test n e) ∙ snoc_length (passing test n) n in
        subst (λ (xs : List ℕ). get_or xs i 0 < get_or xs j 0) (sym (passing_yes test n e))
        (last before (omega (arith, low, longer)) (lt_or_ge j (length (passing test n))))
    go false e before low =
        subst (λ (xs : List ℕ). get_or xs i 0 < get_or xs j 0) (sym (passing_no test n e))
        (before (omega (arith, low, ap length (passing_no test n e))))
