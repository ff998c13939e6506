-- The rule on open keys: what an open key is, in the words of the pairs and with no counting; how many there are; one fault or none.
use mathlib.Core.Path.{◌≡◌, refl, sym, ap, ◌∙◌}
use mathlib.Core.Bool.{Bool, true, false, cond}
use mathlib.Core.Logic.{⊎_elim}
use mathlib.Core.List.{List, [], ◌∷◌}
use Prim.Native.Nat.{ℕ, suc, ◌+◌, ◌*◌, ◌≤◌, ◌<◌}
use native.Mathlib.Omega.{arith}
use borrow.Author.Tests.{eq-eqb, ne_eqb, eqb-true}
use lib.Dec.{eqb}
use lib.ListN.{length, get_or}
use lib.Ieee.{Float}
use Rattle.num_float.proofs.Tests.{same_test, and_true, and_left, and_right, refuted, lt_or_ge}
use Rattle.list_laws.specs.Below.{count_below}
use Rattle.list_laws.proofs.Count.{count_none, count_more, count_same, count_le, count_less}
use Rattle.list_laws.proofs.Regions.{part_place}
use Rattle.file_part.specs.Part.{Part, part_of}
use Rattle.solid_keys.specs.Pair.{pair_of}
use Rattle.solid_keys.proofs.CountLaws.{equal_or_not, above_is, above_zero, none_counted, count_found}
use Rattle.solid_keys.proofs.MeaningLaws.{alone_pair, pair_alone}
use Rattle.solid_segments.specs.Sides.{live, same_side, AloneIn}
use Rattle.solid_segments.proofs.SharedLaws.{part_sides_alike, part_side_self}
use Rattle.solid_faces.specs.Faces.{faces_of}
use Rattle.scratch.specs.declared.regions.Regions.{Regions}
use Rattle.scratch.specs.Standing.{Standing}
use Rattle.scratch.proofs.StandingLaws.{placed_vertices}
use Rattle.fault_row.specs.declared.flaw.Flaw.TheVariants.{NotClosed}
use Rattle.fault_row.specs.Row.{RowPut}
use Rattle.fault_row.specs.Flaw.{row_of}
use Rattle.fault_row.specs.Flaws.{FlawsPut}
use Rattle.fault_row.proofs.FlawLaws.{flaws_none, flaws_one, flaws_same}
use Rattle.print_walls.specs.fault_text.specs.Good.{Good}
use Rattle.rule_printing.specs.Closed.{is_open, open_keys, not_closed}
use Rattle.rule_printing.specs.Work.{NotClosedPut}

-- ---- what an open key is
module _ (t : Part) (s : ℕ) where
  abbrev has : ℕ → Bool
  has u = same_side t u s

  -- two sides of the key are two counted
  two_counted : (u v : ℕ) → u < v → v < t.vertices → has u ≡ true → has v ≡ true → 1 < count_below t.vertices has
  two_counted u v l m hu hv = omega (arith, count_less u v has l hu, count_less v t.vertices has m hv)

  -- with no counting: no other side has the key of s
  pub open_alone : s < t.vertices → is_open t s ≡ true → AloneIn t s
  unfolding is_open
  open_alone l h =
      let keyed : has s ≡ true = part_side_self t s ∙ and_left (live t s) (eqb (count_below t.vertices has) 1) h in
      let one : count_below t.vertices has ≡ 1 = eqb-true (count_below t.vertices has) 1 (and_right (live t s) (eqb (count_below t.vertices has) 1) h) in
      record {
        below = l;
        keyed = keyed;
        only = λ v m g.
            ⊎_elim
            (λ e. e)
            (λ ne.
            ⊎_elim
            (λ before. absurd (omega (arith, one, two_counted v s before l g keyed)))
            (λ from. absurd (omega (arith, one, two_counted s v (past v ne from) m keyed g)))
            (lt_or_ge v s))
            (equal_or_not v s);
      }
    where
      past : (v : ℕ) → (v ≡ s → ⊥) → s ≤ v → s < v
      past v ne from = omega (arith, ne, from)

  pub alone_open : AloneIn t s → is_open t s ≡ true
  unfolding is_open
  alone_open w =
      let none : count_below s has ≡ 0
      = none_counted has s (above_zero has s (λ v l. refuted (has v) (λ h. omega (arith, w.only v (omega (arith, l, w.below)) h, l)))) in
      let one : count_below t.vertices has ≡ suc (count_below s has)
      = count_found has t.vertices s (above_is has t.vertices s w.below w.keyed (λ v l g. refuted (has v) (λ h. omega (arith, w.only v l h, g)))) in
      and_true (live t s) (eqb (count_below t.vertices has) 1) (sym (part_side_self t s) ∙ w.keyed) (eq-eqb (count_below t.vertices has) 1 (omega (arith, none, one)))

  -- by the pair of s
  pub open_pair : s < t.vertices → eqb (pair_of (same_side t) t.vertices s) (s + 1) ≡ is_open t s
  open_pair l =
      same_test (eqb (pair_of (same_side t) t.vertices s) (s + 1)) (is_open t s)
      (λ e. alone_open (pair_alone (same_side t) (part_sides_alike t) t.vertices s l (eqb-true (pair_of (same_side t) t.vertices s) (s + 1) e)))
      (λ h. eq-eqb (pair_of (same_side t) t.vertices s) (s + 1) (alone_pair (same_side t) (part_sides_alike t) t.vertices s (open_alone l h)))

-- ---- how many there are
pub keys_few : (s : List ℕ) (at : Regions) {words : List ℕ} {reals : List Float} → Standing s at words reals → open_keys (part_of s) ≤ 16384
unfolding open_keys
keys_few s at h = omega (arith, count_le (part_of s).vertices (is_open (part_of s)), placed_vertices s at h.placed, h.placed.laid)

module _ (s : List ℕ) (at : Regions) {words : List ℕ} {reals : List Float} (stands : Standing s at words reals) (u : ℕ) (low : u < at.vertices) where
  pub pair_small : at.sides + (u * 3 + 2) < 1048576
  pair_small = omega (arith, low, stands.placed.laid)

  pub pair_room : at.sides + (u * 3 + 2) < length words
  pair_room = omega (arith, low, stands.placed.laid, stands.words_room)

  there : u < (part_of s).vertices
  there = omega (arith, low, placed_vertices s at stands.placed)

  pair_at : at.segments ≡ true → get_or words (at.sides + (u * 3 + 2)) 0 ≡ pair_of (same_side (part_of s)) (part_of s).vertices u
  pair_at on =
      sym (part_place at.sides at.items words 0 (u * 3 + 2) (omega (arith, low, stands.placed.laid)))
      ∙ (stands.the_words.sides on).pairs u there

  -- both are numbers of 32 bits
  pub keys_fit : {k : ℕ} → k ≡ count_below u (is_open (part_of s)) → (u < 4294967296) × (k < 4294967296)
  keys_fit e = (omega (arith, pair_small), omega (arith, pair_small, e, count_le u (is_open (part_of s))))

  -- so many up to u, and then up to the next
  pub keys_next : at.segments ≡ true → {pair k r : ℕ} → pair ≡ get_or words (at.sides + (u * 3 + 2)) 0 → k ≡ count_below u (is_open (part_of s)) →
      r ≡ cond (eqb pair (u + 1)) (k + 1) k → r ≡ count_below (u + 1) (is_open (part_of s))
  keys_next on {pair} {k} {r} ep ek er = go (is_open (part_of s) u) refl
    where
      test : eqb pair (u + 1) ≡ is_open (part_of s) u
      test = ap (λ (q : ℕ). eqb q (u + 1)) (ep ∙ pair_at on) ∙ open_pair (part_of s) u there

      go : (b : Bool) → is_open (part_of s) u ≡ b → r ≡ count_below (u + 1) (is_open (part_of s))
      go true e =
          er ∙ ap (λ (c : Bool). cond c (k + 1) k) (test ∙ e) ∙ ap (λ (j : ℕ). j + 1) ek ∙ sym (count_more u (is_open (part_of s)) e)
      go false e = er ∙ ap (λ (c : Bool). cond c (k + 1) k) (test ∙ e) ∙ ek ∙ sym (count_same u (is_open (part_of s)) e)

pub keys_none : (t : Part) → 0 ≡ count_below 0 (is_open t)
keys_none t = sym (count_none (is_open t))

pub keys_end : (s : List ℕ) (at : Regions) {words : List ℕ} {reals : List Float} → Standing s at words reals → {u k : ℕ} → u ≡ at.vertices →
    k ≡ count_below u (is_open (part_of s)) → k ≡ open_keys (part_of s)
unfolding open_keys
keys_end s at h eu ek = ek ∙ ap (λ (n : ℕ). count_below n (is_open (part_of s))) (eu ∙ placed_vertices s at h.placed)

-- ---- one row or none
module _ (n : ℕ) where
  flaw_is : (b : Bool) → eqb n 0 ≡ b → cond b [] (NotClosed n ∷ []) ≡ cond (eqb n 0) [] (NotClosed n ∷ [])
  flaw_is b e = sym (ap (λ (c : Bool). cond c [] (NotClosed n ∷ [])) e)

  pub open_none : {cells : List ℕ} {numbers : List Float} → n ≡ 0 → NotClosedPut n cells cells numbers numbers 0
  open_none {cells} {numbers} e = record { few = omega arith; put = λ t some. flaws_same (flaw_is true (eq-eqb n 0 e)) (flaws_none 0 cells numbers) }

  pub open_one : {r : ℕ} {cells cells' : List ℕ} {numbers numbers' : List Float} → n ≤ 16384 → (n ≡ 0 → ⊥) →
      RowPut 0 (row_of (NotClosed n)) cells cells' numbers numbers' r → NotClosedPut n cells cells' numbers numbers' r
  unfolding Good
  open_one few e p =
      record {
        few = omega (arith, p.count);
        put = λ t some.
            flaws_same (flaw_is false (ne_eqb n 0 e))
            (flaws_one (NotClosed n) p (some, omega (arith, few)));
      }

pub not_closed_put : (t : Part) → 0 < faces_of t → {n r : ℕ} {cells cells' : List ℕ} {numbers numbers' : List Float} → n ≡ open_keys t → NotClosedPut n cells cells' numbers numbers' r →
    FlawsPut (Good t) 0 (not_closed t) cells cells' numbers numbers' r
unfolding not_closed
not_closed_put t some e p = flaws_same (ap (λ (k : ℕ). cond (eqb k 0) [] (NotClosed k ∷ [])) e) (p.put t some)
