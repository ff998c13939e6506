-- The chains over the first i sides, in columns 4 to 6, and one side more.
use mathlib.Core.Path.{◌≡◌, sym, ap, ◌∙◌, subst}
use mathlib.Core.Logic.{⊎_elim}
use mathlib.Core.Bool.{Bool}
use mathlib.Core.List.{List}
use Prim.Native.Nat.{ℕ, ◌+◌, ◌*◌, ◌<◌, ◌≤◌}
use native.Mathlib.Numerals.{add-one}
use native.Mathlib.Omega.{arith}
use lib.Dec.{eqb}
use lib.ListN.{length, set, length-set}
use borrow.Author.Count.{below_none}
use borrow.Author.Tests.{eq-eqb, ne_eqb}
use Rattle.solid_keys.specs.Pair.{above}
use Rattle.solid_keys.specs.Work.{col, side_cells, Kept, slot, Heads, Next, Before}
use Rattle.solid_keys.proofs.CountLaws.{equal_or_not, newest}
use Rattle.solid_keys.proofs.CellLaws.{Put, put_cell, keep_cell, put_after, put_before, kept_none, kept_set}
use Rattle.solid_keys.proofs.ColumnLaws.{side_cells_kept, slots_kept}

-- one more cell of a column is as f says
filled_more : (f old new : ℕ → ℕ) (i : ℕ) → ((s : ℕ) → s < i → old s ≡ f s) → new i ≡ f i → ((s : ℕ) → s < i → new s ≡ old s)
    → (s : ℕ) → s < i + 1 → new s ≡ f s
filled_more f old new i h there else s m = ⊎_elim (λ d. rw d there) (λ d. else s d ∙ h s d) (newest s i (omega arith))

-- ---- one side more in the slots
module _ (slots : ℕ → ℕ) (n : ℕ) where
  pub heads_start : (head : ℕ → ℕ) → ((k : ℕ) → k < n → head k ≡ 0) → Heads slots n head 0
  unfolding Heads above
  heads_start head h = λ k l. h k l

  own_slot : (i k : ℕ) → slots i ≡ k → i + 1 ≡ above (λ u. eqb (slots u) k) (i + 1)
  unfolding above
  own_slot i k e = rw (add-one, eq-eqb (slots i) k e)

  other_slot : (i k : ℕ) → (slots i ≡ k → ⊥) → above (λ u. eqb (slots u) k) i ≡ above (λ u. eqb (slots u) k) (i + 1)
  unfolding above
  other_slot i k e = rw (add-one, ne_eqb (slots i) k e)

  pub heads_more : (head new : ℕ → ℕ) (i h : ℕ) → Heads slots n head i → h ≡ slots i → new h ≡ i + 1
      → ((k : ℕ) → k < n → (k ≡ h → ⊥) → new k ≡ head k) → Heads slots n new (i + 1)
  unfolding Heads
  heads_more head new i h f e there else =
      λ k b.
      ⊎_elim
      (λ d. rw d (there ∙ own_slot i h (sym e)))
      (λ d. else k b d ∙ f k b ∙ other_slot i k (λ g. d (sym g ∙ sym e)))
      (equal_or_not k h)

  pub from_head : (i h : ℕ) (head : ℕ → ℕ) → Heads slots n head i → h ≡ slots i → h < n → head h ≡ above (λ u. eqb (slots u) (slots i)) i
  unfolding Heads
  from_head i h head g e l = g h l ∙ ap (λ (k : ℕ). above (λ u. eqb (slots u) k) i) e

  pub next_more : (next new : ℕ → ℕ) (i h : ℕ) (head : ℕ → ℕ) → Next slots next i → Heads slots n head i → h ≡ slots i → h < n
      → new i ≡ head h → ((s : ℕ) → s < i → new s ≡ next s) → Next slots new (i + 1)
  unfolding Next
  next_more next new i h head f g e l there else =
      filled_more (λ s. above (λ u. eqb (slots u) (slots s)) s) next new i f (there ∙ from_head i h head g e l) else

-- ---- the columns
pub record Linked (old mem : List ℕ) (n i : ℕ) : Type 0 where
  pub kept : Kept 4 old mem
  pub heads : Heads (slot old n) n (col mem 4) i
  pub next : Next (slot old n) (col mem 5) i
  pub prev : Before (side_cells old) (col mem 6) i

pub linked_start : (mem : List ℕ) (n : ℕ) → ((s : ℕ) → s < n → col mem 4 s ≡ 0) → Linked mem mem n 0
unfolding Next Before
linked_start mem n h = record { kept = kept_none 4 mem; heads = heads_start (slot mem n) n (col mem 4) h; next = below_none _; prev = below_none _ }

-- side s is next, in the slot h
pub record Slotted (old mem : List ℕ) (n s h : ℕ) : Type 0 where
  pub linked : Linked old mem n s
  pub room : n * 8 ≤ length mem
  pub inside : s < n
  pub slot_inside : h < n
  pub slot_is : h ≡ slot mem n s

module _ {old mem : List ℕ} {n s h : ℕ} (at : Slotted old mem n s h) where
  abbrev w : Linked old mem n s
  w = at.linked

  slots_old : slot mem n ≡ slot old n
  slots_old = slots_kept old mem w.kept n

  at_old : h ≡ slot old n s
  at_old = at.slot_is ∙ ap (λ (f : ℕ → ℕ). f s) slots_old

  pub next_now : Next (slot mem n) (col mem 5) s
  next_now = subst (λ (f : ℕ → ℕ). Next f (col mem 5) s) (sym slots_old) w.next

  pub from_now : col mem 4 h ≡ above (λ u. eqb (slot mem n u) (slot mem n s)) s
  from_now =
      subst (λ (f : ℕ → ℕ). col mem 4 h ≡ above (λ u. eqb (f u) (f s)) s) (sym slots_old)
      (from_head (slot old n) n s h (col mem 4) w.heads at_old at.slot_inside)

  module _ (p : ℕ) (found : p ≡ above (λ u. side_cells mem u s) s) where
    abbrev m1 : List ℕ
    m1 = set mem (s * 8 + 6) p

    abbrev m2 : List ℕ
    m2 = set m1 (s * 8 + 5) (col mem 4 h)

    abbrev m3 : List ℕ
    m3 = set m2 (h * 8 + 4) (s + 1)

    put4 : Put (col mem 4) h (s + 1) (col m3 4)
    put4 =
        put_after (col mem 4) (col m2 4) (col m3 4) h (s + 1)
        (λ k. keep_cell m1 5 4 s (col mem 4 h) (omega arith) (omega arith) (λ e. omega arith) k
        ∙ keep_cell mem 6 4 s p (omega arith) (omega arith) (λ e. omega arith) k)
        (put_cell m2 4 h (s + 1) (simp length-set (omega (arith, at.room, at.inside, at.slot_inside))))

    put5 : Put (col mem 5) s (col mem 4 h) (col m3 5)
    put5 =
        put_before (col mem 5) (col m2 5) (col m3 5) s (col mem 4 h)
        (put_after (col mem 5) (col m1 5) (col m2 5) s (col mem 4 h) (keep_cell mem 6 5 s p (omega arith) (omega arith) (λ e. omega arith))
        (put_cell m1 5 s (col mem 4 h) (simp length-set (omega (arith, at.room, at.inside, at.slot_inside)))))
        (keep_cell m2 4 5 h (s + 1) (omega arith) (omega arith) (λ e. omega arith))

    put6 : Put (col mem 6) s p (col m3 6)
    put6 =
        put_before (col mem 6) (col m1 6) (col m3 6) s p
        (put_cell mem 6 s p (omega (arith, at.room, at.inside)))
        (λ k. keep_cell m2 4 6 h (s + 1) (omega arith) (omega arith) (λ e. omega arith) k
        ∙ keep_cell m1 5 6 s (col mem 4 h) (omega arith) (omega arith) (λ e. omega arith) k)

    pub linked_more : Linked old m3 n (s + 1)
    unfolding Before
    linked_more =
        record {
          kept =
              kept_set 4 old m2 4 h (s + 1)
              (kept_set 4 old m1 5 s (col mem 4 h) (kept_set 4 old mem 6 s p w.kept (omega arith) (omega arith)) (omega arith) (omega arith))
              (omega arith) (omega arith);
          heads = heads_more (slot old n) n (col mem 4) (col m3 4) s h w.heads at_old put4.there (λ k b d. put4.else k d);
          next = next_more (slot old n) n (col mem 5) (col m3 5) s h (col mem 4) w.next w.heads at_old at.slot_inside
              put5.there (λ k l. put5.else k (λ g. omega arith));
          prev =
              filled_more (λ t. above (λ u. side_cells old u t) t) (col mem 6) (col m3 6) s w.prev
              (put6.there ∙ found ∙ ap (λ (f : ℕ → ℕ → Bool). above (λ u. f u s) s) (side_cells_kept old mem w.kept))
              (λ k l. put6.else k (λ g. omega arith));
        }
