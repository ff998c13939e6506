-- What `pair_of` means, with no counting: u + 1 where s and u alone have their key and s comes first, s + 1 where s alone has its key,
-- n + 1 where s is the first of more.
use mathlib.Core.Path.{◌≡◌, refl, ◌∙◌}
use mathlib.Core.Logic.{◌⊎◌, ⊎_elim, inl, inr}
use mathlib.Core.Bool.{Bool, true, false, cond}
use Prim.Native.Nat.{ℕ, zero, suc, ◌+◌, ◌<◌, ◌≤◌}
use native.Mathlib.Numerals.{add-one}
use native.Mathlib.Omega.{arith}
use lib.Dec.{eqb, leb}
use borrow.Author.Tests.{eqb-true, leb-true, leb-false, lt-leb}
use Rattle.num_float.proofs.Tests.{refuted, contrary, and_left, and_right, lt_or_ge}
use Rattle.list_laws.specs.Below.{count_below}
use Rattle.list_laws.proofs.Count.{count_less}
use Rattle.solid_keys.specs.Pair.{above, is_first, pair_among, pair_of, Shared, Alone, Many}
use Rattle.solid_keys.proofs.CountLaws.{equal_or_not, above_le, above_passes, above_fails, none_counted, count_found, none_passes, above_is, above_zero}
use Rattle.solid_keys.proofs.SideLaws.{Alike}

-- what is known of a first side with at most two of its key, the last of which is u
record Read (same : ℕ → ℕ → Bool) (n s u : ℕ) : Type 0 where
  keyed : same s s ≡ true
  first : count_below s (λ v. same v s) ≡ 0
  few : count_below n (λ v. same v s) ≤ 2
  last : above (λ v. same v s) n ≡ suc u

module _ (same : ℕ → ℕ → Bool) (n s u : ℕ) where
  -- a pair that is neither 0 nor n + 1 is read so
  read : u < n → pair_of same n s ≡ u + 1 → Read same n s u
  unfolding pair_of pair_among is_first
  read l h = go (is_first same s) (leb (count_below n (λ v. same v s)) 2) refl refl h
    where
      go : (a b : Bool) → is_first same s ≡ a → leb (count_below n (λ v. same v s)) 2 ≡ b
          → cond a (cond b (above (λ v. same v s) n) (n + 1)) 0 ≡ u + 1 → Read same n s u
      go true true e f g =
          record {
            keyed = and_left (same s s) (eqb (count_below s (λ v. same v s)) 0) e;
            first = eqb-true (count_below s (λ v. same v s)) 0 (and_right (same s s) (eqb (count_below s (λ v. same v s)) 0) e);
            few = leb-true (count_below n (λ v. same v s)) 2 f;
            last = g ∙ add-one u;
          }
      go true false e f g = absurd (omega arith)
      go false b e f g = absurd (omega arith)

  -- and what is read so is such a pair
  written : Read same n s u → pair_of same n s ≡ u + 1
  unfolding pair_of pair_among is_first
  written r = go (count_below n (λ v. same v s)) refl r.few
    where
      go : (k : ℕ) → count_below n (λ v. same v s) ≡ k → k ≤ 2 → pair_of same n s ≡ u + 1
      go zero e l = rw (r.keyed, r.first, e, r.last, add-one)
      go (suc zero) e l = rw (r.keyed, r.first, e, r.last, add-one)
      go (suc (suc zero)) e l = rw (r.keyed, r.first, e, r.last, add-one)
      go (suc (suc (suc k))) e l = absurd (omega arith)

module _ (same : ℕ → ℕ → Bool) (alike : Alike same) (n s : ℕ) where
  -- ---- two
  pub shared_pair : (u : ℕ) → Shared same n s u → pair_of same n s ≡ u + 1
  shared_pair u w =
      let last : above (λ v. same v s) n ≡ suc u =
      above_is (λ v. same v s) n u w.below w.both
      (λ v l g. refuted (same v s) (λ h. ⊎_elim (λ e. omega (arith, w.order)) (λ e. omega arith) (w.only v l h))) in
      let keyed : same s s ≡ true = alike.join s u s (alike.flip u s w.both) w.both in
      let next : above (λ v. same v s) u ≡ suc s =
      above_is (λ v. same v s) u s w.order keyed
      (λ v l g. refuted (same v s) (λ h. ⊎_elim (λ e. omega arith) (λ e. omega arith) (w.only v (omega (arith, w.below)) h))) in
      let none : above (λ v. same v s) s ≡ 0 =
      above_zero (λ v. same v s) s
      (λ v l. refuted (same v s) (λ h. ⊎_elim (λ e. omega arith) (λ e. omega (arith, w.order)) (w.only v (omega (arith, w.below, w.order)) h))) in
      let first : count_below s (λ v. same v s) ≡ 0 = none_counted (λ v. same v s) s none in
      let few : count_below n (λ v. same v s) ≤ 2 = omega (arith, count_found (λ v. same v s) n u last, count_found (λ v. same v s) u s next) in
      written same n s u (record { keyed = keyed; first = first; few = few; last = last })

  -- between s and the last u of at most two nothing has the key
  between : (u v : ℕ) → Read same n s u → s < v → v < u → same v s ≡ false
  between u v r a b = go (above (λ x. same x s) u) refl
    where
      go : (x : ℕ) → above (λ x. same x s) u ≡ x → same v s ≡ false
      go zero e = above_fails (λ x. same x s) u v b (omega arith)
      go (suc x) e =
          let none : count_below x (λ y. same y s) ≡ 0 = omega (arith, r.few, count_found (λ y. same y s) n u r.last, count_found (λ y. same y s) u x e) in
          ⊎_elim
          (λ l. absurd (contrary r.keyed (none_passes (λ y. same y s) x s l none)))
          (λ l. above_fails (λ y. same y s) u v b (omega arith))
          (lt_or_ge s x)

  only_two : (u v : ℕ) → Read same n s u → v < n → same v s ≡ true → (v ≡ s) ⊎ (v ≡ u)
  only_two u v r l h =
      ⊎_elim
      (λ d. absurd (contrary h (none_passes (λ x. same x s) s v d r.first)))
      (λ d.
      ⊎_elim
      (λ e. inl e)
      (λ e.
      ⊎_elim
      (λ f. absurd (contrary h (between u v r (omega arith) f)))
      (λ f.
      ⊎_elim
      (λ g. inr g)
      (λ g. absurd (contrary h (above_fails (λ x. same x s) n v l (omega (arith, r.last)))))
      (equal_or_not v u))
      (lt_or_ge v u))
      (equal_or_not v s))
      (lt_or_ge v s)

  pub pair_shared : (u : ℕ) → s < u → u < n → pair_of same n s ≡ u + 1 → Shared same n s u
  pair_shared u order below h =
      let r = read same n s u below h in
      record {
        order = order;
        below = below;
        both = above_passes (λ v. same v s) n u r.last;
        only = λ v l k. only_two u v r l k;
      }

  -- ---- one
  pub alone_pair : Alone same n s → pair_of same n s ≡ s + 1
  alone_pair w =
      let last : above (λ v. same v s) n ≡ suc s =
      above_is (λ v. same v s) n s w.below w.keyed (λ v l g. refuted (same v s) (λ h. omega (arith, w.only v l h))) in
      let none : above (λ v. same v s) s ≡ 0 =
      above_zero (λ v. same v s) s (λ v l. refuted (same v s) (λ h. omega (arith, w.only v (omega (arith, w.below)) h))) in
      let first : count_below s (λ v. same v s) ≡ 0 = none_counted (λ v. same v s) s none in
      written same n s s (record { keyed = w.keyed; first = first; few = omega (arith, count_found (λ v. same v s) n s last); last = last })

  pub pair_alone : s < n → pair_of same n s ≡ s + 1 → Alone same n s
  pair_alone below h =
      let r = read same n s s below h in
      record { below = below; keyed = r.keyed; only = λ v l k. ⊎_elim (λ e. e) (λ e. e) (only_two s v r l k) }

  -- ---- more
  pub many_pair : Many same n s → pair_of same n s ≡ n + 1
  unfolding pair_of pair_among is_first
  many_pair w =
      let keyed : same s s ≡ true = alike.join s w.second s (alike.flip w.second s w.second_has) w.second_has in
      let none : count_below s (λ v. same v s) ≡ 0 = none_counted (λ v. same v s) s (above_zero (λ v. same v s) s w.first) in
      let three : 2 < count_below n (λ v. same v s) =
      omega (
        arith,
        count_less w.third n (λ v. same v s) w.below w.third_has,
        count_less w.second w.third (λ v. same v s) w.order.1 w.second_has,
        count_less s w.second (λ v. same v s) w.order.0 keyed,
      ) in
      rw (keyed, none, lt-leb (count_below n (λ v. same v s)) 2 three)

  module _ (first : count_below s (λ v. same v s) ≡ 0) where
    -- what has the key is not below s
    from_first : (x : ℕ) → same x s ≡ true → s ≤ x
    from_first x h = ⊎_elim (λ l. absurd (contrary h (none_passes (λ v. same v s) s x l first))) (λ l. l) (lt_or_ge x s)

    three_many : (x y z : ℕ) → above (λ v. same v s) n ≡ suc x → above (λ v. same v s) x ≡ suc y → above (λ v. same v s) y ≡ suc z → Many same n s
    three_many x y z a b c =
        record {
          second = y;
          third = x;
          order =
              (omega (arith, from_first z (above_passes (λ v. same v s) y z c), above_le (λ v. same v s) y, c), omega (arith, above_le (λ v. same v s) x, b));
          below = omega (arith, above_le (λ v. same v s) n, a);
          second_has = above_passes (λ v. same v s) x y b;
          third_has = above_passes (λ v. same v s) n x a;
          first = λ v l. none_passes (λ v. same v s) s v l first;
        }

    third_go : (x y k : ℕ) → 0 < count_below y (λ v. same v s) → above (λ v. same v s) n ≡ suc x → above (λ v. same v s) x ≡ suc y
        → above (λ v. same v s) y ≡ k → Many same n s
    third_go x y zero l a b c = absurd (omega (arith, none_counted (λ v. same v s) y c))
    third_go x y (suc z) l a b c = three_many x y z a b c

    second_go : (x k : ℕ) → 1 < count_below x (λ v. same v s) → above (λ v. same v s) n ≡ suc x → above (λ v. same v s) x ≡ k → Many same n s
    second_go x zero l a b = absurd (omega (arith, none_counted (λ v. same v s) x b))
    second_go x (suc y) l a b = third_go x y (above (λ v. same v s) y) (omega (arith, count_found (λ v. same v s) x y b)) a b refl

    first_go : (k : ℕ) → 2 < count_below n (λ v. same v s) → above (λ v. same v s) n ≡ k → Many same n s
    first_go zero l a = absurd (omega (arith, none_counted (λ v. same v s) n a))
    first_go (suc x) l a = second_go x (above (λ v. same v s) x) (omega (arith, count_found (λ v. same v s) n x a)) a refl

  pub pair_many : pair_of same n s ≡ n + 1 → Many same n s
  unfolding pair_of pair_among is_first
  pair_many h = go (is_first same s) (leb (count_below n (λ v. same v s)) 2) refl refl h
    where
      go : (a b : Bool) → is_first same s ≡ a → leb (count_below n (λ v. same v s)) 2 ≡ b
          → cond a (cond b (above (λ v. same v s) n) (n + 1)) 0 ≡ n + 1 → Many same n s
      go true true e f g = absurd (omega (arith, above_le (λ v. same v s) n))
      go true false e f g =
          first_go (eqb-true (count_below s (λ v. same v s)) 0 (and_right (same s s) (eqb (count_below s (λ v. same v s)) 0) e))
          (above (λ v. same v s) n) (leb-false (count_below n (λ v. same v s)) 2 f) refl
      go false b e f g = absurd (omega arith)
