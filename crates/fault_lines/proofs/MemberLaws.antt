-- Laws of `In` and `Ordered`: over one list after another, by places, and that a list in a strict order is known by its members.
use mathlib.Core.Path.{◌≡◌, refl, sym, ap₂, subst, ◌∙◌}
use mathlib.Core.Bool.{Bool, true, false, cond}
use mathlib.Core.List.{List, [], ◌∷◌, ◌++◌, map}
use mathlib.Core.Logic.{◌⊎◌, inl, inr, ⊎_elim}
use Prim.Native.Nat.{ℕ, zero, suc, ◌<◌}
use native.Mathlib.Omega.{arith}
use lib.ListN.{length, get_or}
use Rattle.fault_lines.specs.Member.{In, Ordered}

module _ {A : Type 0} where
  -- ---- one list after another
  pub in_left : (x : A) (s t : List A) → In x s → In x (s ++ t)
  unfolding In
  in_left x [] t m = absurd m
  in_left x (y ∷ s) t (inl e) = inl e
  in_left x (y ∷ s) t (inr m) = inr (in_left x s t m)

  pub in_right : (x : A) (s t : List A) → In x t → In x (s ++ t)
  unfolding In
  in_right x [] t m = m
  in_right x (y ∷ s) t m = inr (in_right x s t m)

  pub in_cases : (x : A) (s t : List A) → In x (s ++ t) → In x s ⊎ In x t
  unfolding In
  in_cases x [] t m = inr m
  in_cases x (y ∷ s) t (inl e) = inl (inl e)
  in_cases x (y ∷ s) t (inr m) = ⊎_elim (λ (a : In x s). inl (inr a)) (λ (b : In x t). inr b) (in_cases x s t m)

  pub ordered_append : (R : A → A → Type 0) (s t : List A) → Ordered R s → Ordered R t → ((x y : A) → In x s → In y t → R x y) → Ordered R (s ++ t)
  unfolding In Ordered
  ordered_append R [] t a b f = b
  ordered_append R (x ∷ s) t a b f = (
    (λ y m. ⊎_elim (λ (p : In y s). a.0 y p) (λ (q : In y t). f x y (inl refl) q) (in_cases y s t m)),
    ordered_append R s t a.1 b (λ u v p q. f u v (inr p) q),
  )

  -- ---- one element where a test passes, else none
  pub in_one : (x a : A) (b : Bool) → In x (cond b (a ∷ []) []) → (b ≡ true) × (x ≡ a)
  unfolding In
  in_one x a true (inl e) = (refl, e)
  in_one x a true (inr m) = absurd m
  in_one x a false m = absurd m

  pub one_in : (a : A) (b : Bool) → b ≡ true → In a (cond b (a ∷ []) [])
  unfolding In
  one_in a b e = subst (λ (c : Bool). In a (cond c (a ∷ []) [])) (sym e) (inl refl)

  pub one_ordered : (R : A → A → Type 0) (b : Bool) (a : A) → Ordered R (cond b (a ∷ []) [])
  unfolding In Ordered
  one_ordered R true a = ((λ y m. absurd m), tt)
  one_ordered R false a = tt

  -- ---- by places
  pub in_at : (d : A) (s : List A) (k : ℕ) → k < length s → In (get_or s k d) s
  unfolding In
  in_at d [] k h = absurd (omega (arith, h))
  in_at d (x ∷ s) zero h = inl refl
  in_at d (x ∷ s) (suc k) h = inr (in_at d s k (omega (arith, h)))

  pub at_in : (d x : A) (s : List A) → In x s → (k : ℕ) × (k < length s) × (x ≡ get_or s k d)
  unfolding In
  at_in d x [] m = absurd m
  at_in d x (y ∷ s) (inl e) = (0, omega arith, e)
  at_in d x (y ∷ s) (inr m) = let w = at_in d x s m in (suc w.0, omega (arith, w.1), w.2)

  -- ---- a strict order
  module _ (R : A → A → Type 0) (irr : (x : A) → R x x → ⊥) (trans : (x y z : A) → R x y → R y z → R x z) where
    heads : (x y : A) (xs ys : List A) → Ordered R (x ∷ xs) → Ordered R (y ∷ ys) → In x (y ∷ ys) → In y (x ∷ xs) → x ≡ y
    unfolding In Ordered
    heads x y xs ys a b (inl e) n = e
    heads x y xs ys a b (inr m) (inl e) = sym e
    heads x y xs ys a b (inr m) (inr n) = absurd (irr x (trans x y x (a.0 y n) (b.0 x m)))

    -- a member of the tail is a member of the other tail
    tails : (x y z : A) (xs ys : List A) → Ordered R (x ∷ xs) → x ≡ y → In z xs → In z (y ∷ ys) → In z ys
    unfolding In Ordered
    tails x y z xs ys a e m (inl f) = absurd (irr x (subst (R x) (f ∙ sym e) (a.0 z m)))
    tails x y z xs ys a e m (inr n) = n

    -- two lists in order with the same members are one list
    pub same_list : (us vs : List A) → Ordered R us → Ordered R vs → ((x : A) → In x us → In x vs) → ((x : A) → In x vs → In x us) → us ≡ vs
    unfolding In Ordered
    same_list [] [] a b f g = refl
    same_list [] (y ∷ vs) a b f g = absurd (g y (inl refl))
    same_list (x ∷ us) [] a b f g = absurd (f x (inl refl))
    same_list (x ∷ us) (y ∷ vs) a b f g =
        let e : x ≡ y = heads x y us vs a b (f x (inl refl)) (g y (inl refl)) in
        ap₂ ◌∷◌ e (same_list us vs a.1 b.1 (λ z m. tails x y z us vs a e m (f z (inr m))) (λ z m. tails y x z vs us b (sym e) m (g z (inr m))))

-- ---- the members of a list that is mapped
module _ {A B : Type 0} (g : A → B) where
  pub in_map : (x : A) (s : List A) → In x s → In (g x) (map g s)
  unfolding In
  in_map x [] m = absurd m
  in_map x (y ∷ s) (inl e) = inl (λ i. g (e i))
  in_map x (y ∷ s) (inr m) = inr (in_map x s m)

  pub map_in : (b : B) (s : List A) → In b (map g s) → (x : A) × In x s × (b ≡ g x)
  unfolding In
  map_in b [] m = absurd m
  map_in b (y ∷ s) (inl e) = (y, inl refl, e)
  map_in b (y ∷ s) (inr m) = let w = map_in b s m in (w.0, inr w.1, w.2)
