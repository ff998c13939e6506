-- One side more: how the pairs change, by the highest side below it that has its key.
use mathlib.Core.Path.{◌≡◌, refl, sym, ap, ◌∙◌, subst}
use mathlib.Core.Logic.{⊎_elim}
use mathlib.Core.Bool.{Bool, true, false, ◌&&◌, cond}
use Prim.Native.Nat.{ℕ, zero, suc, ◌+◌, ◌<◌, ◌≤◌}
use native.Mathlib.Numerals.{add-one}
use native.Mathlib.Omega.{arith}
use lib.Dec.{eqb, leb}
use borrow.Author.Tests.{ne_eqb, eqb-true, leb-true, lt-leb}
use Rattle.num_float.proofs.Tests.{refuted, contrary, same_test, and_right, and_false_right, lt_or_ge}
use Rattle.list_laws.specs.Below.{count_below}
use Rattle.solid_keys.specs.Pair.{above, is_first, pair_among, pair_of}
use Rattle.solid_keys.specs.Work.{Before, Out}
use Rattle.solid_keys.proofs.CountLaws.{equal_or_not, newest, above_le, above_passes, above_fails, none_counted, count_found, none_passes, counts_agree, above_same}
use Rattle.solid_keys.proofs.SideLaws.{Alike}
use Rattle.solid_keys.proofs.CellLaws.{Put}

-- pairs go by the sides below n alone
pub pair_same : (f g : ℕ → ℕ → Bool) (n s : ℕ) → s < n → ((u : ℕ) → u < n → f u s ≡ g u s) → pair_of f n s ≡ pair_of g n s
unfolding pair_of pair_among is_first
pair_same f g n s l h =
    rw (
      h s l,
      counts_agree (λ u. f u s) (λ u. g u s) s (λ u m. h u (omega arith)),
      counts_agree (λ u. f u s) (λ u. g u s) n h,
      above_same (λ u. f u s) (λ u. g u s) n h,
    )

module _ (same : ℕ → ℕ → Bool) (alike : Alike same) (many : ℕ) where
  -- the sides with the key of a are those with the key of b
  count_key : (a b n : ℕ) → same a b ≡ true → count_below n (λ u. same u a) ≡ count_below n (λ u. same u b)
  count_key a b n h =
      counts_agree (λ u. same u a) (λ u. same u b) n
      (λ u l. same_test (same u a) (same u b) (λ g. alike.join u a b g h) (λ g. alike.join u b a g (alike.flip a b h)))

  -- a side that has another key changes nothing
  unmet : (i s : ℕ) → same i s ≡ false → pair_among same many (i + 1) s ≡ pair_among same many i s
  unfolding pair_among count_below above
  unmet i s h = rw (add-one, h)

  -- one that has the key of s, as k sides below it have
  met : (i s k : ℕ) → same i s ≡ true → count_below i (λ u. same u i) ≡ k
      → pair_among same many (i + 1) s ≡ cond (is_first same s) (cond (leb (suc k) 2) (i + 1) many) 0
  unfolding pair_among count_below above
  met i s k h e = rw (add-one, h, count_key s i i (alike.flip i s h), e)

  -- the new side itself, of which no side below it has the key
  own : (i : ℕ) → count_below i (λ u. same u i) ≡ 0 → pair_among same many (i + 1) i ≡ cond (same i i) (i + 1) 0
  unfolding pair_among is_first count_below above
  own i e = rw (add-one, e) (go (same i i) (above (λ u. same u i) i))
    where
      go : (b : Bool) (a : ℕ) → cond (b && eqb 0 0) (cond (leb (cond b 1 0) 2) (cond b (suc i) a) many) 0 ≡ cond b (suc i) 0
      go true a = refl
      go false a = refl

  -- and of which k + 1 sides below it have the key
  later : (i k : ℕ) → count_below i (λ u. same u i) ≡ suc k → pair_among same many (i + 1) i ≡ 0
  unfolding pair_among is_first
  later i k e = rw (e, and_false_right (same i i) (eqb (suc k) 0) (ne_eqb (suc k) 0 (λ z. omega arith)))

  -- ---- no side below has the key of i
  none_kept : (i : ℕ) → above (λ u. same u i) i ≡ 0 → (s : ℕ) → s < i → pair_among same many (i + 1) s ≡ pair_among same many i s
  none_kept i none s l = unmet i s (refuted (same i s) (λ h. contrary (alike.flip i s h) (above_fails (λ u. same u i) i s l (omega arith))))

  module _ (i u : ℕ) (one : above (λ v. same v i) i ≡ suc u) where
    below : u < i
    below = omega (arith, above_le (λ v. same v i) i)

    has : same u i ≡ true
    has = above_passes (λ v. same v i) i u one

    counted : count_below i (λ v. same v i) ≡ suc (count_below u (λ v. same v u))
    counted = count_found (λ v. same v i) i u one ∙ ap suc (count_key i u u (alike.flip u i has))

    -- ---- u alone has it
    module _ (first : above (λ v. same v u) u ≡ 0) where
      u_first : is_first same u ≡ true
      unfolding is_first
      u_first = rw (alike.join u i u has (alike.flip u i has), none_counted (λ v. same v u) u first)

      two_met : pair_among same many (i + 1) u ≡ i + 1
      two_met = met i u 1 (alike.flip u i has) (counted ∙ ap suc (none_counted (λ v. same v u) u first)) ∙ rw u_first

      two_other : (s : ℕ) → s < i → (s ≡ u → ⊥) → same i s ≡ true → ⊥
      two_other s l d h =
          ⊎_elim
          (λ g. contrary (alike.join s i u (alike.flip i s h) (alike.flip u i has)) (above_fails (λ v. same v u) u s g (omega arith)))
          (λ g. contrary (alike.flip i s h) (above_fails (λ v. same v i) i s l (omega arith)))
          (lt_or_ge s u)

      two_kept : (s : ℕ) → s < i → (s ≡ u → ⊥) → pair_among same many (i + 1) s ≡ pair_among same many i s
      two_kept s l d = unmet i s (refuted (same i s) (two_other s l d))

    -- ---- before u, w has it too
    module _ (w : ℕ) (second : above (λ v. same v u) u ≡ suc w) where
      w_has : same w u ≡ true
      w_has = above_passes (λ v. same v u) u w second

      w_counted : count_below i (λ v. same v i) ≡ suc (suc (count_below w (λ v. same v w)))
      w_counted = counted ∙ ap suc (count_found (λ v. same v u) u w second ∙ ap suc (count_key u w w (alike.flip w u w_has)))

      -- any side with the key, if it is the first, is the first of many
      third : (s : ℕ) → same i s ≡ true → pair_among same many (i + 1) s ≡ cond (is_first same s) many 0
      third s h =
          met i s (suc (suc (count_below w (λ v. same v w)))) h w_counted
          ∙ rw (lt-leb (suc (suc (suc (count_below w (λ v. same v w))))) 2 (omega arith))

      w_first : (p : ℕ) → p ≡ above (λ v. same v w) w → is_first same w ≡ eqb p 0
      unfolding is_first
      w_first zero e = rw (alike.join w u w w_has (alike.flip w u w_has), none_counted (λ v. same v w) w (sym e))
      w_first (suc x) e =
          rw (
            alike.join w u w w_has (alike.flip w u w_has),
            count_found (λ v. same v w) w x (sym e),
            ne_eqb (suc (count_below x (λ v. same v w))) 0 (λ z. omega arith),
          )
          (sym (ne_eqb (suc x) 0 (λ z. omega arith)))

      third_met : (p : ℕ) → p ≡ above (λ v. same v w) w → pair_among same many (i + 1) w ≡ cond (eqb p 0) many 0
      third_met p e = third w (alike.flip w i (alike.join w u i w_has has)) ∙ ap (λ (b : Bool). cond b many 0) (w_first p e)

      -- where only two sides below i have the key, w is their first
      is_w : (s : ℕ) → is_first same s ≡ true → same i s ≡ true → count_below i (λ v. same v s) ≤ 2 → s ≡ w
      unfolding is_first
      is_w s f h few =
          let in-key : same s w ≡ true = alike.join s u w (alike.join s i u (alike.flip i s h) (alike.flip u i has)) (alike.flip w u w_has) in
          let none-w : count_below w (λ v. same v w) ≡ 0 = omega (arith, w_counted, count_key s i i (alike.flip i s h)) in
          let none-s : count_below s (λ v. same v s) ≡ 0 = eqb-true (count_below s (λ v. same v s)) 0 (and_right (same s s) (eqb (count_below s (λ v. same v s)) 0) f) in
          ⊎_elim
          (λ g. absurd (contrary in-key (none_passes (λ v. same v w) w s g none-w)))
          (λ g.
          ⊎_elim
          (λ k. absurd (contrary (alike.flip s w in-key) (none_passes (λ v. same v s) s w k none-s)))
          (λ k. omega arith)
          (lt_or_ge w s))
          (lt_or_ge s w)

      old : (s : ℕ) → same i s ≡ true → (s ≡ w → ⊥) → pair_among same many i s ≡ cond (is_first same s) many 0
      unfolding pair_among
      old s h d = go (is_first same s) (leb (count_below i (λ v. same v s)) 2) refl refl
        where
          go : (a b : Bool) → is_first same s ≡ a → leb (count_below i (λ v. same v s)) 2 ≡ b → cond a (cond b (above (λ v. same v s) i) many) 0 ≡ cond a many 0
          go true true e f = absurd (d (is_w s e h (leb-true (count_below i (λ v. same v s)) 2 f)))
          go true false e f = refl
          go false b e f = refl

      third_kept : (s : ℕ) → (s ≡ w → ⊥) → pair_among same many (i + 1) s ≡ pair_among same many i s
      third_kept s d = go (same i s) refl
        where
          go : (b : Bool) → same i s ≡ b → pair_among same many (i + 1) s ≡ pair_among same many i s
          go true h = third s h ∙ sym (old s h d)
          go false h = unmet i s h

  -- ---- the column of the pairs, after a store to i and perhaps a second one
  module _ (i v : ℕ) (out new : ℕ → ℕ) (h : Out same many i out) (put : Put out i v new) (at_i : pair_among same many (i + 1) i ≡ v) where
    stored : (s : ℕ) → s < i + 1 → (s < i → pair_among same many (i + 1) s ≡ pair_among same many i s) → new s ≡ pair_among same many (i + 1) s
    unfolding Out
    stored s l f =
        ⊎_elim
        (λ e. rw e (put.there ∙ sym at_i))
        (λ g. put.else s (λ e. omega arith) ∙ h s g ∙ sym (f g))
        (newest s i (omega arith))

    stored_two : (then : ℕ → ℕ) (j x s : ℕ) → Put new j x then → pair_among same many (i + 1) j ≡ x → s < i + 1
        → ((s ≡ j → ⊥) → s < i → pair_among same many (i + 1) s ≡ pair_among same many i s) → then s ≡ pair_among same many (i + 1) s
    stored_two then j x s p e m f =
        ⊎_elim
        (λ d. rw d (p.there ∙ sym e))
        (λ d. p.else s d ∙ stored s m (f d))
        (equal_or_not s j)

  module _ (i : ℕ) (out new : ℕ → ℕ) (h : Out same many i out) where
    pub own_out : (v : ℕ) → Put out i v new → v ≡ cond (same i i) (i + 1) 0 → above (λ u. same u i) i ≡ 0 → Out same many (i + 1) new
    unfolding Out
    own_out v put e none = λ s l. stored i v out new h put (own i (none_counted (λ u. same u i) i none) ∙ sym e) s l (none_kept i none s)

    module _ (put : Put out i 0 new) (then : ℕ → ℕ) (u : ℕ) (one : above (λ v. same v i) i ≡ suc u) where
      at_i : pair_among same many (i + 1) i ≡ 0
      at_i = later i (count_below u (λ v. same v u)) (counted i u one)

      pub two_out : Put new u (i + 1) then → above (λ v. same v u) u ≡ 0 → Out same many (i + 1) then
      unfolding Out
      two_out p first = λ s l. stored_two i 0 out new h put at_i then u (i + 1) s p (two_met i u one first) l (λ d g. two_kept i u one first s g d)

      pub third_out : (w p x : ℕ) → Put new w x then → above (λ v. same v u) u ≡ suc w → p ≡ above (λ v. same v w) w
          → x ≡ cond (eqb p 0) many 0 → Out same many (i + 1) then
      unfolding Out
      third_out w p x q second e f =
          λ s l. stored_two i 0 out new h put at_i then w x s q (third_met i u one w second p e ∙ sym f) l (λ d g. third_kept i u one w second s d)

-- ---- the first and the last step
pub out_none : (same : ℕ → ℕ → Bool) (many : ℕ) (out : ℕ → ℕ) → Out same many 0 out
unfolding Out
out_none same many out = λ s l. absurd (omega arith)

pub out_all : (same : ℕ → ℕ → Bool) (n i : ℕ) (out : ℕ → ℕ) → i ≡ n → Out same (n + 1) i out → (s : ℕ) → s < n → out s ≡ pair_of same n s
unfolding Out pair_of
out_all same n i out e h = subst (λ (k : ℕ). Out same (n + 1) k out) e h

-- ---- the side before, as the column of `prev` has it
pub before_le : (same : ℕ → ℕ → Bool) (prev : ℕ → ℕ) (n : ℕ) → Before same prev n → (s : ℕ) → s < n → prev s ≤ s
unfolding Before
before_le same prev n f s l = omega (arith, f s l, above_le (λ u. same u s) s)

pub before_is : (same : ℕ → ℕ → Bool) (prev : ℕ → ℕ) (n : ℕ) → Before same prev n → (s p : ℕ) → s < n → p ≡ prev s → above (λ u. same u s) s ≡ p
unfolding Before
before_is same prev n f s p l e = sym (f s l) ∙ sym e
