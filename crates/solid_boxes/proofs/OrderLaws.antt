-- The order of the polygons: each still has its place after two are exchanged.
use mathlib.Core.Path.{◌≡◌, refl, sym, ap, ◌∙◌}
use mathlib.Core.Bool.{Bool, true, false}
use mathlib.Core.List.{List}
use Prim.Native.Nat.{ℕ, ◌+◌, ◌≤◌, ◌<◌}
use native.Mathlib.Omega.{arith}
use lib.Dec.{eqb}
use borrow.Author.Tests.{eqb-true, eqb-false}
use lib.ListN.{length, set, length-set}
use lib.Seq.{get_or-set_same, get_or-set_other}
use Rattle.solid_boxes.specs.Tree.{at, Order}
use Rattle.solid_boxes.specs.Work.{swapped, Split}

by_eq : (a b : ℕ) {A : Type 0} → (a ≡ b → A) → ((a ≡ b → ⊥) → A) → A
by_eq a b {A} f g = go (eqb a b) refl
  where
    go : (v : Bool) → eqb a b ≡ v → A
    go true e = f (eqb-true a b e)
    go false e = g (eqb-false a b e)

-- ---- the numbers from 0 on
pub record Counted (words : List ℕ) (i : ℕ) : Type 0 where
  pub is : (x : ℕ) → x < i → at words x ≡ x

pub numbered_all : (words : List ℕ) (i n : ℕ) → i ≤ n → n ≤ i → Counted words i → n ≤ length words → Order words n
numbered_all words i n a b C l =
    record {
      room = l;
      numbers = λ x h. omega (arith, C.is x (omega (arith, h, b)), h);
      onto = λ p h. record { place = p; below = h; is = C.is p (omega (arith, h, b)) };
    }

-- ---- two places exchanged
module _ (l : List ℕ) (a b n : ℕ) (O : Order l n) (ha : a < n) (hb : b < n) where
  at_b : at (swapped l a b) b ≡ at l a
  at_b = get_or-set_same (set l a (at l b)) b (at l a) 0 (simp length-set (omega (arith, O.room)))

  at_a : at (swapped l a b) a ≡ at l b
  at_a =
      by_eq a b
      (λ e. rw e (get_or-set_same (set l b (at l b)) b (at l b) 0 (simp length-set (omega (arith, O.room)))))
      (λ d. get_or-set_other (set l a (at l b)) b a (at l a) 0 (λ e. omega (arith, d)) ∙ get_or-set_same l a (at l b) 0 (omega (arith, O.room)))

  at_other : (x : ℕ) → (x ≡ a → ⊥) → (x ≡ b → ⊥) → at (swapped l a b) x ≡ at l x
  at_other x p q = get_or-set_other (set l a (at l b)) b x (at l a) 0 (λ e. omega (arith, q)) ∙ get_or-set_other l a x (at l b) 0 (λ e. omega (arith, p))

  pub swapped_order : Order (swapped l a b) n
  swapped_order =
      record {
        room = simp length-set O.room;
        numbers = λ x k. by_eq x a
            (λ e. rw (e, at_a) (O.numbers b hb))
            (λ d. by_eq x b (λ e. rw (e, at_b) (O.numbers a ha)) (λ f. rw (at_other x d f) (O.numbers x k)));
        onto = λ p k.
            let z = O.onto p k in
            by_eq z.place a
            (λ e. record { place = b; below = hb; is = at_b ∙ ap (λ (y : ℕ). at l y) (sym e) ∙ z.is })
            (λ d. by_eq z.place b
            (λ e. record { place = a; below = ha; is = at_a ∙ ap (λ (y : ℕ). at l y) (sym e) ∙ z.is })
            (λ f. record { place = z.place; below = z.below; is = at_other z.place d f ∙ z.is }));
      }

  pub swapped_kept : (i : ℕ) → n ≤ i → at (swapped l a b) i ≡ at l i
  swapped_kept i h = at_other i (λ e. omega (arith, e, h, ha)) (λ e. omega (arith, e, h, hb))

-- ---- on the way of a split
pub record Splitting (before after : List ℕ) (n : ℕ) : Type 0 where
  pub order : Order after n
  pub size : length after ≡ length before
  pub kept : (i : ℕ) → n ≤ i → at after i ≡ at before i

pub splitting_none : (words : List ℕ) (n : ℕ) → Order words n → Splitting words words n
splitting_none words n O = record { order = O; size = refl; kept = λ i l. refl }

pub splitting_more : (before l l₁ : List ℕ) (n a b : ℕ) → Splitting before l n → a < n → b < n → l₁ ≡ swapped l a b → Splitting before l₁ n
splitting_more before l l₁ n a b P ha hb e =
    rw e
    (record {
      order = swapped_order l a b n P.order ha hb;
      size = simp length-set P.size;
      kept = λ i h. swapped_kept l a b n P.order ha hb i h ∙ P.kept i h;
    })

pub splitting_done : (before after : List ℕ) (n x b k : ℕ) → Splitting before after n → x + 2 ≤ k → k + 2 ≤ b → Split before after n x b k
splitting_done before after n x b k P lo hi = record { order = P.order; size = P.size; kept = P.kept; low = lo; high = hi }
