-- The numbers that pass a test: one more, members, and a list each of whose elements is told of twice.
use mathlib.Core.Path.{◌≡◌, refl, sym, ap, ◌∙◌, subst}
use mathlib.Core.Bool.{Bool, true, false, cond}
use mathlib.Core.Logic.{◌⊎◌, inl, inr}
use mathlib.Core.List.Memᴰ
use mathlib.Core.List.{List, [], ◌∷◌, ◌++◌, map, map-append, append-nil, append_assoc, Memᴰ}
use Prim.Native.Nat.{ℕ, zero, suc, ◌+◌, ◌*◌, ◌/◌, ◌%◌, ◌≤◌, ◌<◌}
use native.Mathlib.Numerals.{add-one}
use native.Mathlib.Omega.{arith}
use lib.Dec.{eqb}
use lib.ListN.{length, get_or, length-append, get_or-append}
use lib.Seq.{get_or-append-add}
use borrow.Author.Tests.{eq-eqb, ne_eqb}
use Rattle.num_float.proofs.Tests.{lt_or_ge}
use Rattle.list_groups.specs.Groups.{passing}
use Rattle.list_groups.proofs.Pairs.{passing_same}

-- ---- one number more
pub passing_more : (test : ℕ → Bool) (s : ℕ) → test s ≡ true → passing test (s + 1) ≡ passing test s ++ (s ∷ [])
unfolding passing
passing_more test s h = rw (add-one, h)

pub passing_past : (test : ℕ → Bool) (s : ℕ) → test s ≡ false → passing test (s + 1) ≡ passing test s
unfolding passing
passing_past test s h = rw (add-one, h) (append-nil (passing test s))

pub passing_step : (test : ℕ → Bool) (s : ℕ) → passing test (suc s) ≡ passing test s ++ cond (test s) (s ∷ []) []
unfolding passing
passing_step test s = refl

pub passing_zero : (test : ℕ → Bool) → passing test 0 ≡ []
unfolding passing
passing_zero test = refl

-- ---- members
one_mem : (b : Bool) (s : ℕ) {z : ℕ} → Memᴰ z (cond b (s ∷ []) []) → (b ≡ true) × (z ≡ s)
one_mem true s m = (refl, Memᴰ.eq_of_singleton m)
one_mem false s m = absurd (Memᴰ.not-nil m)

pub mem_passing : (test : ℕ → Bool) (n : ℕ) {z : ℕ} → Memᴰ z (passing test n) → (z < n) × (test z ≡ true)
unfolding passing
mem_passing test zero m = absurd (Memᴰ.not-nil m)
mem_passing test (suc s) {z} m = go (λ l. mem_passing test s l) (Memᴰ.append_cases (passing test s) m)
  where
    go : (Memᴰ z (passing test s) → (z < s) × (test z ≡ true)) → Memᴰ z (passing test s) ⊎ Memᴰ z (cond (test s) (s ∷ []) []) → (z < suc s) × (test z ≡ true)
    go before (inl l) =
        let w = before l in
        (omega (arith, w.0), w.1)
    go before (inr l) =
        let w = one_mem (test s) s l in
        (omega (arith, w.1), ap test w.1 ∙ w.0)

pub passing_mem : (test : ℕ → Bool) (n z : ℕ) → z < n → test z ≡ true → Memᴰ z (passing test n)
unfolding passing
passing_mem test zero z l e = absurd (omega (arith, l))
passing_mem test (suc s) z l e = go (λ below. passing_mem test s z below e) (lt_or_ge z s)
  where
    go : (z < s → Memᴰ z (passing test s)) → (z < s) ⊎ (s ≤ z) → Memᴰ z (passing test s ++ cond (test s) (s ∷ []) [])
    go before (inl below) = Memᴰ.append_left (cond (test s) (s ∷ []) []) (before below)
    go before (inr above) =
        let same : z ≡ s = omega (arith, l, above) in
        Memᴰ.append_right (passing test s) (subst (λ (b : Bool). Memᴰ z (cond b (s ∷ []) [])) (sym (ap test (sym same) ∙ e)) (Memᴰ.head same))

-- ---- each element of a list twice: numbers 2i and 2i + 1 are those of element i
-- map over what passes, where the elements agree
pub map_passing : (f g : ℕ → ℕ) (test : ℕ → Bool) (n : ℕ) → ((k : ℕ) → k < n → f k ≡ g k) → map f (passing test n) ≡ map g (passing test n)
map_passing f g test zero each = ap (map f) (passing_zero test) ∙ ap (map g) (sym (passing_zero test))
map_passing f g test (suc n) each =
    ap (map f) (passing_step test n) ∙ map-append f (passing test n) (cond (test n) (n ∷ []) [])
    ∙ ap (λ (l : List ℕ). l ++ map f (cond (test n) (n ∷ []) [])) (map_passing f g test n (λ k h. each k (omega (arith, h))))
    ∙ ap (λ (l : List ℕ). map g (passing test n) ++ l) (last (test n))
    ∙ sym (map-append g (passing test n) (cond (test n) (n ∷ []) [])) ∙ ap (map g) (sym (passing_step test n))
  where
    last : (b : Bool) → map f (cond b (n ∷ []) []) ≡ map g (cond b (n ∷ []) [])
    last true = ap (λ (z : ℕ). z ∷ []) (each n (omega arith))
    last false = refl

module _ (A B : ℕ → Bool) where
  abbrev pub twice_test : List ℕ → ℕ → Bool
  twice_test l k = cond (eqb (k % 2) 0) (A (get_or l (k / 2) 0)) (B (get_or l (k / 2) 0))

  abbrev pub twice : List ℕ → List ℕ
  twice l = map (λ k. get_or l (k / 2) 0) (passing (twice_test l) (2 * length l))

  abbrev both : ℕ → List ℕ
  both x = cond (A x) (x ∷ []) [] ++ cond (B x) (x ∷ []) []

  twice_nil : twice [] ≡ []
  unfolding passing
  twice_nil = refl

  module _ (l : List ℕ) (x : ℕ) where
    abbrev next : List ℕ
    next = l ++ (x ∷ [])

    abbrev m : ℕ
    m = 2 * length l

    old : (k : ℕ) → k < m → get_or next (k / 2) 0 ≡ get_or l (k / 2) 0
    old k h = get_or-append l (x ∷ []) 0 (k / 2) (omega (arith, h))

    new : (k : ℕ) → k / 2 ≡ length l → get_or next (k / 2) 0 ≡ x
    new k e =
        let here : k / 2 ≡ length l + 0 = omega (arith, e) in
        ap (λ (i : ℕ). get_or next i 0) here ∙ get_or-append-add l (x ∷ []) 0 0

    near_test : twice_test next m ≡ A x
    near_test =
        let even : m % 2 ≡ 0 = omega arith in
        ap (λ (b : Bool). cond b (A (get_or next (m / 2) 0)) (B (get_or next (m / 2) 0))) (eq-eqb (m % 2) 0 even) ∙ ap A (new m (omega arith))

    far_test : twice_test next (suc m) ≡ B x
    far_test =
        let odd : suc m % 2 ≡ 1 = omega arith in
        ap (λ (b : Bool). cond b (A (get_or next (suc m / 2) 0)) (B (get_or next (suc m / 2) 0))) (ne_eqb (suc m % 2) 0 (λ e. omega (arith, e, odd)))
        ∙ ap B (new (suc m) (omega arith))

    before_same : passing (twice_test next) m ≡ passing (twice_test l) m
    before_same =
        passing_same (twice_test next) (twice_test l) m
        (λ k h. ap (λ (z : ℕ). cond (eqb (k % 2) 0) (A z) (B z)) (old k h))

    one : (b : Bool) (k : ℕ) → k / 2 ≡ length l → map (λ k. get_or next (k / 2) 0) (cond b (k ∷ []) []) ≡ cond b (x ∷ []) []
    one true k e = ap (λ (z : ℕ). z ∷ []) (new k e)
    one false k e = refl

    all : passing (twice_test next) (2 * length next) ≡ passing (twice_test l) m ++ (cond (A x) (m ∷ []) [] ++ cond (B x) (suc m ∷ []) [])
    all =
        let size : 2 * length next ≡ suc (suc m) = omega (arith, length-append l (x ∷ [])) in
        ap (passing (twice_test next)) size ∙ passing_step (twice_test next) (suc m)
        ∙ ap (λ (z : List ℕ). z ++ cond (twice_test next (suc m)) (suc m ∷ []) []) (passing_step (twice_test next) m)
        ∙ append_assoc (passing (twice_test next) m) (cond (twice_test next m) (m ∷ []) []) (cond (twice_test next (suc m)) (suc m ∷ []) [])
        ∙ ap (λ (z : List ℕ). z ++ (cond (twice_test next m) (m ∷ []) [] ++ cond (twice_test next (suc m)) (suc m ∷ []) [])) before_same
        ∙ ap (λ (b : Bool). passing (twice_test l) m ++ (cond b (m ∷ []) [] ++ cond (twice_test next (suc m)) (suc m ∷ []) [])) near_test
        ∙ ap (λ (b : Bool). passing (twice_test l) m ++ (cond (A x) (m ∷ []) [] ++ cond b (suc m ∷ []) [])) far_test

    pub twice_more : twice next ≡ twice l ++ both x
    twice_more =
        let f : ℕ → ℕ = λ k. get_or next (k / 2) 0 in
        ap (map f) all
        ∙ map-append f (passing (twice_test l) m) (cond (A x) (m ∷ []) [] ++ cond (B x) (suc m ∷ []) [])
        ∙ ap (λ (z : List ℕ). z ++ map f (cond (A x) (m ∷ []) [] ++ cond (B x) (suc m ∷ []) [])) (map_passing f (λ k. get_or l (k / 2) 0) (twice_test l) m old)
        ∙ ap (λ (z : List ℕ). twice l ++ z)
        (map-append f (cond (A x) (m ∷ []) []) (cond (B x) (suc m ∷ []) [])
        ∙ ap (λ (z : List ℕ). z ++ map f (cond (B x) (suc m ∷ []) [])) (one (A x) m (omega arith))
        ∙ ap (λ (z : List ℕ). cond (A x) (x ∷ []) [] ++ z) (one (B x) (suc m) (omega arith)))

  -- of those that pass the test, A or B picks those that pass C
  module _ (test C : ℕ → Bool) where
    pub twice_passing : (n : ℕ) → ((s : ℕ) → s < n → test s ≡ true → both s ≡ cond (C s) (s ∷ []) []) → ((s : ℕ) → s < n → test s ≡ false → C s ≡ false)
        → twice (passing test n) ≡ passing C n
    twice_passing zero some none = ap twice (passing_zero test) ∙ twice_nil ∙ sym (passing_zero C)
    twice_passing (suc n) some none =
        go (twice_passing n (λ s h. some s (omega (arith, h))) (λ s h. none s (omega (arith, h)))) (test n) refl
      where
        go : twice (passing test n) ≡ passing C n → (b : Bool) → test n ≡ b → twice (passing test (suc n)) ≡ passing C (suc n)
        go before true e =
            ap twice (passing_step test n ∙ ap (λ (b : Bool). passing test n ++ cond b (n ∷ []) []) e)
            ∙ twice_more (passing test n) n ∙ ap (λ (z : List ℕ). z ++ both n) before
            ∙ ap (λ (z : List ℕ). passing C n ++ z) (some n (omega arith) e) ∙ sym (passing_step C n)
        go before false e =
            ap twice (passing_step test n ∙ ap (λ (b : Bool). passing test n ++ cond b (n ∷ []) []) e ∙ append-nil (passing test n))
            ∙ before ∙ sym (append-nil (passing C n)) ∙ ap (λ (b : Bool). passing C n ++ cond b (n ∷ []) []) (sym (none n (omega arith) e))
            ∙ sym (passing_step C n)
