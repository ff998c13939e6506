-- The starts, node by node, with the ends of the places that wait on a stack.
use mathlib.Core.Path.{◌≡◌, refl, sym, ap, ◌∙◌, subst}
use mathlib.Core.List.{List}
use mathlib.Core.Logic.{◌⊎◌, inl, inr}
use Prim.Native.Nat.{ℕ, suc, ◌+◌, ◌-◌, ◌*◌, ◌≤◌, ◌<◌}
use native.Mathlib.Omega.{arith}
use lib.ListN.{length, set, length-set}
use lib.Seq.{get_or-set_same, get_or-set_other}
use Rattle.num_float.proofs.Tests.{lt_or_ge}
use Rattle.num_order.proofs.Signed.{by_lt}
use Rattle.solid_boxes.specs.Tree.{at, Order, start_at, skip_at}
use Rattle.solid_boxes.specs.Work.{Split, Started}

-- after m nodes: the next polygon is x, and d ends wait, the nearest on top
pub record State (starts stack : ℕ → ℕ) (n m x d : ℕ) : Type 0 where
  pub top : d ≡ 0 → x ≡ n
  pub gap : (j : ℕ) → j + 1 < d → stack (j + 1) + 2 ≤ stack j
  pub high : (e : ℕ) → d ≡ e + 1 → x + 2 ≤ stack e
  pub deep : (j : ℕ) → j < d → stack j + j ≤ n
  pub bottom : 0 < d → stack 0 ≡ n
  pub here : starts m ≡ x
  pub first : starts 0 ≡ 0
  pub early : (i : ℕ) → i < m → starts i < n
  pub rising : (i : ℕ) → i < m → starts i ≤ starts (i + 1)
  pub few : (i : ℕ) → i < m → starts (i + 1) ≤ starts i + 8
  pub inside : (i : ℕ) → i ≤ m → starts i ≤ x
  pub count : m + 1 ≤ x + d
  pub below : x ≤ n

-- ---- one start more
module _ (starts next : ℕ → ℕ) (m y : ℕ) (new : next (m + 1) ≡ y) (old : (i : ℕ) → i ≤ m → next i ≡ starts i)
    (stack : ℕ → ℕ) (n x d : ℕ) (S : State starts stack n m x d) (lo : x ≤ y) (hi : y ≤ x + 8) where
  next_early : x < n → (i : ℕ) → i < m + 1 → next i < n
  next_early b i l =
      by_lt i m
      (λ k. rw (old i (omega arith)) (S.early i k))
      (λ k. let e : i ≡ m = omega arith in rw (e, old m (omega arith), S.here) b)

  next_rising : (i : ℕ) → i < m + 1 → next i ≤ next (i + 1)
  next_rising i l =
      by_lt i m
      (λ k. rw (old i (omega arith), old (i + 1) (omega arith)) (S.rising i k))
      (λ k. let e : i ≡ m = omega arith in rw (e, old m (omega arith), new, S.here) lo)

  next_few : (i : ℕ) → i < m + 1 → next (i + 1) ≤ next i + 8
  next_few i l =
      by_lt i m
      (λ k. rw (old i (omega arith), old (i + 1) (omega arith)) (S.few i k))
      (λ k. let e : i ≡ m = omega arith in rw (e, old m (omega arith), new, S.here) hi)

  next_inside : (i : ℕ) → i ≤ m + 1 → next i ≤ y
  next_inside i l =
      by_lt m i
      (λ k. let e : i ≡ m + 1 = omega arith in rw (e, new) (omega arith))
      (λ k. rw (old i k) (omega (arith, S.inside i k)))

module _ (starts next stack later : ℕ → ℕ) (n m x e : ℕ) (S : State starts stack n m x (e + 1)) (old : (i : ℕ) → i ≤ m → next i ≡ starts i)
    (same : (j : ℕ) → j ≤ e → later j ≡ stack j) where
  -- few places are a leaf
  leaf : (y : ℕ) → y ≡ stack e → next (m + 1) ≡ y → y ≤ x + 8 → State next later n (m + 1) y e
  leaf y ey new h =
      let lo : x ≤ y = omega (arith, ey, S.high e refl) in
      record {
        top = λ z. ey ∙ rw z (S.bottom (omega arith));
        gap = λ j l. rw (same j (omega arith), same (j + 1) (omega arith)) (S.gap j (omega arith));
        high = λ f z. rw (ey, z, same f (omega arith)) (S.gap f (omega arith));
        deep = λ j l. rw (same j (omega arith)) (S.deep j (omega arith));
        bottom = λ l. same 0 (omega arith) ∙ S.bottom (omega arith);
        here = new;
        first = old 0 (omega arith) ∙ S.first;
        early = next_early starts next m y new old stack n x (e + 1) S lo h (omega (arith, S.deep e (omega arith), S.high e refl));
        rising = next_rising starts next m y new old stack n x (e + 1) S lo h;
        few = next_few starts next m y new old stack n x (e + 1) S lo h;
        inside = next_inside starts next m y new old stack n x (e + 1) S lo h;
        count = omega (arith, S.count, S.high e refl, ey);
        below = omega (arith, S.deep e (omega arith), ey);
      }

  -- more are split at k
  split_at : (k : ℕ) → next (m + 1) ≡ x → later (e + 1) ≡ k → x + 2 ≤ k → k + 2 ≤ stack e → State next later n (m + 1) x (e + 1 + 1)
  split_at k new top_is a b =
      let lo : x ≤ x = omega arith in
      let hi : x ≤ x + 8 = omega arith in
      record {
        top = λ z. absurd {A = x ≡ n} (omega arith);
        gap = λ j l. by_lt j e
            (λ g. rw (same j (omega arith), same (j + 1) (omega arith)) (S.gap j (omega arith)))
            (λ g. let z : j ≡ e = omega arith in rw (z, top_is, same e (omega arith)) b);
        high = λ f z. let w : f ≡ e + 1 = omega arith in rw (w, top_is) a;
        deep = λ j l. by_lt j (e + 1)
            (λ g. rw (same j (omega arith)) (S.deep j g))
            (λ g. let z : j ≡ e + 1 = omega arith in rw (z, top_is) (omega (arith, S.deep e (omega arith))));
        bottom = λ l. same 0 (omega arith) ∙ S.bottom (omega arith);
        here = new;
        first = old 0 (omega arith) ∙ S.first;
        early = next_early starts next m x new old stack n x (e + 1) S lo hi (omega (arith, S.deep e (omega arith), S.high e refl));
        rising = next_rising starts next m x new old stack n x (e + 1) S lo hi;
        few = next_few starts next m x new old stack n x (e + 1) S lo hi;
        inside = next_inside starts next m x new old stack n x (e + 1) S lo hi;
        count = omega (arith, S.count);
        below = S.below;
      }

-- ---- in the words of the code
module _ (starts stack : ℕ → ℕ) (n m x d : ℕ) (l : 0 < d) (S : State starts stack n m x d) where
  pub room : x + d + 1 ≤ n
  room = let e : d ≡ d - 1 + 1 = omega arith in omega (arith, S.deep (d - 1) (omega arith), S.high (d - 1) e)

pub top_is : (words : List ℕ) (n m x d : ℕ) → 0 < d → State (start_at words n) (skip_at words n) n m x d → (b : ℕ) →
    b ≡ at words (2 * n + 1 + (d - 1)) → (x + 2 ≤ b) × (b ≤ n)
unfolding skip_at
top_is words n m x d l S b e =
    let k : d ≡ d - 1 + 1 = omega arith in
    (omega (arith, e, S.high (d - 1) k), omega (arith, e, S.deep (d - 1) (omega arith)))

-- ---- stores
module _ (words : List ℕ) (n k v : ℕ) where
  -- a start
  module _ (lk : k ≤ n) where
    start_new : n + k < length words → start_at (set words (n + k) v) n k ≡ v
    unfolding start_at
    start_new h = get_or-set_same words (n + k) v 0 h

    start_old : (i : ℕ) → (i ≡ k → ⊥) → start_at (set words (n + k) v) n i ≡ start_at words n i
    unfolding start_at
    start_old i h = get_or-set_other words (n + k) (n + i) v 0 (λ e. h (omega (arith, e)))

    stack_same : (j : ℕ) → skip_at (set words (n + k) v) n j ≡ skip_at words n j
    unfolding skip_at
    stack_same j = get_or-set_other words (n + k) (2 * n + 1 + j) v 0 (λ e. omega (arith, e, lk))

  -- an end
  end_new : 2 * n + 1 + k < length words → skip_at (set words (2 * n + 1 + k) v) n k ≡ v
  unfolding skip_at
  end_new h = get_or-set_same words (2 * n + 1 + k) v 0 h

  end_old : (j : ℕ) → (j ≡ k → ⊥) → skip_at (set words (2 * n + 1 + k) v) n j ≡ skip_at words n j
  unfolding skip_at
  end_old j h = get_or-set_other words (2 * n + 1 + k) (2 * n + 1 + j) v 0 (λ e. h (omega (arith, e)))

  starts_same : (i : ℕ) → i ≤ n → start_at (set words (2 * n + 1 + k) v) n i ≡ start_at words n i
  unfolding start_at
  starts_same i l = get_or-set_other words (2 * n + 1 + k) (n + i) v 0 (λ e. omega (arith, e, l))

pub order_put : (words : List ℕ) (n i v : ℕ) → n ≤ i → Order words n → Order (set words i v) n
order_put words n i v h O =
    record {
      room = simp length-set O.room;
      numbers = λ x l. rw (get_or-set_other words i x v 0 (λ e. omega (arith, e, l, h))) (O.numbers x l);
      onto = λ p l.
          let z = O.onto p l in
          record { place = z.place; below = z.below; is = get_or-set_other words i z.place v 0 (λ e. omega (arith, e, h, z.below)) ∙ z.is };
    }

abbrev pub Starting : List ℕ → ℕ → ℕ → ℕ → ℕ → ℕ → Type 0
Starting words z n m x d = (length words ≡ z) × (Order words n × State (start_at words n) (skip_at words n) n m x d)

pub begun : (words w₁ w₂ : List ℕ) (n : ℕ) → Order words n → 2 ≤ n → 3 * n + 1 ≤ length words → w₁ ≡ set words n 0 → w₂ ≡ set w₁ (2 * n + 1) n →
    Starting w₂ (length w₂) n 0 0 1
unfolding start_at skip_at
begun words w₁ w₂ n O l Q e f =
    let r1 : length w₁ ≡ length words = ap length e ∙ simp length-set in
    let o1 : Order w₁ n = subst (λ (k : List ℕ). Order k n) (sym e) (order_put words n n 0 (omega arith) O) in
    let o2 : Order w₂ n = subst (λ (k : List ℕ). Order k n) (sym f) (order_put w₁ n (2 * n + 1) n (omega arith) o1) in
    let z0 : n + 0 ≡ n = omega arith in
    let z1 : 2 * n + 1 + 0 ≡ 2 * n + 1 = omega arith in
    let s : at w₂ (n + 0) ≡ 0
    = rw (z0, f, get_or-set_other w₁ (2 * n + 1) n n 0 (λ e. omega (arith, e)), e) (get_or-set_same words n 0 0 (omega (arith, Q))) in
    let t : at w₂ (2 * n + 1 + 0) ≡ n = rw (z1, f) (get_or-set_same w₁ (2 * n + 1) n 0 (omega (arith, Q, r1, l))) in (
      refl,
      (
        o2,
        record {
          top = λ z. absurd {A = 0 ≡ n} (omega arith);
          gap = λ j k. absurd {A = at w₂ (2 * n + 1 + (j + 1)) + 2 ≤ at w₂ (2 * n + 1 + j)} (omega (arith, k));
          high = λ e z. let w : e ≡ 0 = omega (arith, z) in rw (w, t) (omega (arith, l));
          deep = λ j k. let w : j ≡ 0 = omega (arith, k) in rw (w, t) (omega arith);
          bottom = λ k. t;
          here = s;
          first = s;
          early = λ i k. absurd {A = at w₂ (n + i) < n} (omega (arith, k));
          rising = λ i k. absurd {A = at w₂ (n + i) ≤ at w₂ (n + (i + 1))} (omega (arith, k));
          few = λ i k. absurd {A = at w₂ (n + (i + 1)) ≤ at w₂ (n + i) + 8} (omega (arith, k));
          inside = λ i k. let w : i ≡ 0 = omega (arith, k) in rw (w, s) (omega arith);
          count = omega arith;
          below = omega arith;
        },
      ),
    )

module _ (words : List ℕ) (z₀ n m x d b : ℕ) (E : length words ≡ z₀) (O : Order words n)
    (S : State (start_at words n) (skip_at words n) n m x d) (l : 0 < d)
    (z : ℕ) (ez : length words ≡ z) (Q : 3 * n + 1 ≤ z) (eb : b ≡ at words (2 * n + 1 + (d - 1))) where
  back : d - 1 + 1 ≡ d
  back = omega arith

  few_m : m + 1 ≤ n
  few_m = omega (arith, room _ _ _ _ _ _ l S, S.count)

  state : State (start_at words n) (skip_at words n) n m x (d - 1 + 1)
  state = rw back S

  pub leaf_step : (w : List ℕ) → b ≤ x + 4 → w ≡ set words (n + (m + 1)) b → Starting w z₀ n (m + 1) b (d - 1)
  leaf_step w h e =
      let g : State (start_at (set words (n + (m + 1)) b) n) (skip_at (set words (n + (m + 1)) b) n) n (m + 1) b (d - 1)
      = leaf (start_at words n) _ (skip_at words n) _ n m x (d - 1) state
      (λ i k. start_old words n (m + 1) b few_m i (λ z. omega (arith, z, k)))
      (λ j k. stack_same words n (m + 1) b few_m j)
      b (unfold skip_at in eb) (start_new words n (m + 1) b few_m (omega (arith, few_m, ez, Q))) (omega (arith, h)) in
      subst (λ (k : List ℕ). Starting k z₀ n (m + 1) b (d - 1)) (sym e)
      (simp length-set E, (order_put words n (n + (m + 1)) b (omega arith) O, g))

module _ (words v : List ℕ) (z₀ n m x d b k : ℕ) (E : length words ≡ z₀) (O : Order words n)
    (S : State (start_at words n) (skip_at words n) n m x d) (l : 0 < d)
    (z : ℕ) (ez : length words ≡ z) (Q : 3 * n + 1 ≤ z) (eb : b ≡ at words (2 * n + 1 + (d - 1))) (P : Split words v n x b k) where
  start_kept : (i : ℕ) → start_at v n i ≡ start_at words n i
  unfolding start_at
  start_kept i = P.kept (n + i) (omega arith)

  skip_kept : (i : ℕ) → skip_at v n i ≡ skip_at words n i
  unfolding skip_at
  skip_kept i = P.kept (2 * n + 1 + i) (omega arith)

  few_k : m + 1 ≤ n
  few_k = omega (arith, room _ _ _ _ _ _ l S, S.count)

  back_k : d - 1 + 1 ≡ d
  back_k = omega arith

  state_k : State (start_at words n) (skip_at words n) n m x (d - 1 + 1)
  state_k = rw back_k S

  top_b : b ≡ skip_at words n (d - 1)
  unfolding skip_at
  top_b = eb

  abbrev w1 : List ℕ
  w1 = set v (2 * n + 1 + d) k

  abbrev w2 : List ℕ
  w2 = set w1 (n + (m + 1)) x

  roomy : (2 * n + 1 + d < length v) × (n + (m + 1) < length w1)
  roomy = (omega (arith, P.size, ez, Q, room _ _ _ _ _ _ l S), simp length-set (omega (arith, P.size, ez, Q, few_k)))

  grown : State (start_at w2 n) (skip_at w2 n) n (m + 1) x (d - 1 + 1 + 1)
  grown =
      split_at (start_at words n) (start_at w2 n) (skip_at words n) (skip_at w2 n) n m x (d - 1) state_k
      (λ i h. start_old w1 n (m + 1) x few_k i (λ z. omega (arith, z, h)) ∙ starts_same v n d k i (omega (arith, h, few_k)) ∙ start_kept i)
      (λ j h. stack_same w1 n (m + 1) x few_k j ∙ end_old v n d k j (λ z. omega (arith, z, h, l)) ∙ skip_kept j)
      k (start_new w1 n (m + 1) x few_k roomy.1)
      (stack_same w1 n (m + 1) x few_k (d - 1 + 1) ∙ ap (skip_at w1 n) back_k ∙ end_new v n d k roomy.0)
      P.low (omega (arith, P.high, top_b))

  pub split_step : (u w : List ℕ) → u ≡ set v (2 * n + 1 + d) k → w ≡ set u (n + (m + 1)) x → Starting w z₀ n (m + 1) x (d + 1)
  split_step u w e f =
      let g : w ≡ w2 = f ∙ ap (λ (z : List ℕ). set z (n + (m + 1)) x) e in
      let h : State (start_at w2 n) (skip_at w2 n) n (m + 1) x (d + 1) = rw back_k at grown in
      subst (λ (z : List ℕ). Starting z z₀ n (m + 1) x (d + 1)) (sym g)
      (simp length-set (P.size ∙ E), (order_put w1 n (n + (m + 1)) x (omega arith) (order_put v n (2 * n + 1 + d) k (omega arith) P.order), h))

pub finished : (words : List ℕ) (n m x d : ℕ) → Order words n → State (start_at words n) (skip_at words n) n m x d → d ≤ 0 → 2 ≤ n → Started words n m
finished words n m x d O S z l =
    let e : d ≡ 0 = omega (arith, z) in
    let t : x ≡ n = S.top e in
    record {
      order = O;
      starts = record {
        first = S.first;
        last = S.here ∙ t;
        early = S.early;
        rising = S.rising;
        few = S.few;
        inside = λ i h. omega (arith, S.inside i h, t);
      };
      few = omega (arith, S.count, t, e);
      some = some_of m refl;
    }
  where
    some_of : (k : ℕ) → m ≡ k → 0 < m
    some_of Prim.Native.Nat.zero q =
        let e : d ≡ 0 = omega (arith, z) in
        let t : x ≡ n = S.top e in
        let h : start_at words n 0 ≡ n = ap (start_at words n) (sym q) ∙ S.here ∙ t in
        absurd (omega (arith, h, S.first, l))
    some_of (suc k) q = omega (arith, q)

-- ---- one node
start_of : (w : List ℕ) (n k j v : ℕ) → n + k ≡ j → at w j ≡ v → start_at w n k ≡ v
unfolding start_at
start_of w n k j v e h = ap (at w) e ∙ h

pub started_one : (words w₁ w₂ : List ℕ) (n : ℕ) → Order words n → n ≡ 1 → 3 * n + 1 ≤ length words → w₁ ≡ set words 1 0 → w₂ ≡ set w₁ 2 1 →
    Started w₂ n 1
started_one words w₁ w₂ n O en Q e f =
    let r1 : length w₁ ≡ length words = ap length e ∙ simp length-set in
    let o1 : Order w₁ n = subst (λ (k : List ℕ). Order k n) (sym e) (order_put words n 1 0 (omega arith) O) in
    let o2 : Order w₂ n = subst (λ (k : List ℕ). Order k n) (sym f) (order_put w₁ n 2 1 (omega arith) o1) in
    let s0 : at w₂ 1 ≡ 0 = rw (f, get_or-set_other w₁ 2 1 1 0 (λ z. omega (arith, z)), e) (get_or-set_same words 1 0 0 (omega (arith, Q, en))) in
    let s1 : at w₂ 2 ≡ 1 = rw f (get_or-set_same w₁ 2 1 0 (omega (arith, Q, en, r1))) in
    let a0 : start_at w₂ n 0 ≡ 0 = start_of w₂ n 0 1 0 (omega (arith, en)) s0 in
    let a1 : start_at w₂ n 1 ≡ 1 = start_of w₂ n 1 2 1 (omega (arith, en)) s1 in
    record {
      order = o2;
      starts = record {
        first = a0;
        last = a1 ∙ sym en;
        early = λ i l. let z : i ≡ 0 = omega (arith, l) in rw (z, a0) (omega (arith, en));
        rising = λ i l. let z : i ≡ 0 = omega (arith, l) in rw (z, a0) (omega arith);
        few = λ i l. let z : i ≡ 0 = omega (arith, l) in rw (z, a0, a1) (omega arith);
        inside = λ i l. inside_one i l (lt_or_ge i 1) a0 a1;
      };
      few = omega (arith, en);
      some = omega arith;
    }
  where
    inside_one : (i : ℕ) → i ≤ 1 → (i < 1) ⊎ (1 ≤ i) → start_at w₂ n 0 ≡ 0 → start_at w₂ n 1 ≡ 1 → start_at w₂ n i ≤ n
    inside_one i l (inl h) p q = let z : i ≡ 0 = omega (arith, h) in rw (z, p) (omega arith)
    inside_one i l (inr h) p q = let z : i ≡ 1 = omega (arith, h, l) in rw (z, q) (omega (arith, en))
