-- The cells of the sides packed one side after the other.
use mathlib.Core.Path.{◌≡◌, ◌∙◌, subst}
use mathlib.Core.List.{List}
use mathlib.Core.Logic.{◌⊎◌, inl, inr}
use Prim.Native.Nat.{ℕ, ◌+◌, ◌*◌, ◌≤◌, ◌<◌}
use native.Mathlib.Omega.{arith}
use lib.ListN.{length, get_or, set, length-set}
use lib.Seq.{get_or-set_same, get_or-set_other}
use Rattle.num_float.proofs.Tests.{lt_or_ge}
use Rattle.file_part.specs.Part.{Part}
use Rattle.solid_segments.specs.Sides.{SharedSegments}
use Rattle.solid_segments.specs.Work.{PairedSides, Packed, PackedMore}

module _ (s : ℕ) (l : List ℕ) (room : s * 8 + 8 ≤ length l) where
  abbrev new : List ℕ
  new = set (set (set l (s * 3) (get_or l (s * 8 + 3) 0)) (s * 3 + 1) (get_or l (s * 8 + 4) 0)) (s * 3 + 2) (get_or l (s * 8 + 7) 0)

  abbrev one : List ℕ
  one = set l (s * 3) (get_or l (s * 8 + 3) 0)

  abbrev two : List ℕ
  two = set one (s * 3 + 1) (get_or l (s * 8 + 4) 0)

  two_long : length two ≡ length l
  two_long = length-set one (s * 3 + 1) (get_or l (s * 8 + 4) 0) ∙ length-set l (s * 3) (get_or l (s * 8 + 3) 0)

  other : (i : ℕ) → (i ≡ s * 3 → ⊥) → (i ≡ s * 3 + 1 → ⊥) → (i ≡ s * 3 + 2 → ⊥) → get_or new i 0 ≡ get_or l i 0
  other i a b c =
      get_or-set_other two (s * 3 + 2) i (get_or l (s * 8 + 7) 0) 0 c ∙ get_or-set_other one (s * 3 + 1) i (get_or l (s * 8 + 4) 0) 0 b ∙ get_or-set_other l (s * 3) i (get_or l (s * 8 + 3) 0) 0 a

  first : get_or new (s * 3) 0 ≡ get_or l (s * 8 + 3) 0
  first =
      get_or-set_other two (s * 3 + 2) (s * 3) (get_or l (s * 8 + 7) 0) 0 (λ e. omega (arith, e)) ∙ get_or-set_other one (s * 3 + 1) (s * 3) (get_or l (s * 8 + 4) 0) 0 (λ e. omega (arith, e))
      ∙ get_or-set_same l (s * 3) (get_or l (s * 8 + 3) 0) 0 (omega (arith, room))

  second : get_or new (s * 3 + 1) 0 ≡ get_or l (s * 8 + 4) 0
  second =
      get_or-set_other two (s * 3 + 2) (s * 3 + 1) (get_or l (s * 8 + 7) 0) 0 (λ e. omega (arith, e))
      ∙ get_or-set_same one (s * 3 + 1) (get_or l (s * 8 + 4) 0) 0 (omega (arith, room, length-set l (s * 3) (get_or l (s * 8 + 3) 0)))

  third : get_or new (s * 3 + 2) 0 ≡ get_or l (s * 8 + 7) 0
  third = get_or-set_same two (s * 3 + 2) (get_or l (s * 8 + 7) 0) 0 (omega (arith, room, two_long))

  pub packed_more : PackedMore s l new
  packed_more = record { packed = go; long = length-set two (s * 3 + 2) (get_or l (s * 8 + 7) 0) ∙ two_long }
    where
      go : (old : List ℕ) → Packed s old l → Packed (s + 1) old new
      go old h =
          record {
            ends = λ i a. cell (λ k. k * 3) (λ k. k * 8 + 3) i a h.ends (λ b. other (i * 3) (λ e. omega (arith, e, b)) (λ e. omega (arith, e, b)) (λ e. omega (arith, e, b)))
                (first ∙ h.rest (s * 8 + 3) (omega arith)) (lt_or_ge i s);
            owners = λ i a. cell (λ k. k * 3 + 1) (λ k. k * 8 + 4) i a h.owners (λ b. other (i * 3 + 1) (λ e. omega (arith, e, b)) (λ e. omega (arith, e, b)) (λ e. omega (arith, e, b)))
                (second ∙ h.rest (s * 8 + 4) (omega arith)) (lt_or_ge i s);
            pairs = λ i a. cell (λ k. k * 3 + 2) (λ k. k * 8 + 7) i a h.pairs (λ b. other (i * 3 + 2) (λ e. omega (arith, e, b)) (λ e. omega (arith, e, b)) (λ e. omega (arith, e, b)))
                (third ∙ h.rest (s * 8 + 7) (omega arith)) (lt_or_ge i s);
            rest = λ i a. other i (λ e. omega (arith, e, a)) (λ e. omega (arith, e, a)) (λ e. omega (arith, e, a)) ∙ h.rest i (omega (arith, a));
            long = length-set two (s * 3 + 2) (get_or l (s * 8 + 7) 0) ∙ two_long ∙ h.long;
          }
        where
          cell : (to from : ℕ → ℕ) (i : ℕ) → i < s + 1 → ((k : ℕ) → k < s → get_or l (to k) 0 ≡ get_or old (from k) 0) → (i < s → get_or new (to i) 0 ≡ get_or l (to i) 0)
              → get_or new (to s) 0 ≡ get_or old (from s) 0 → (i < s) ⊎ (s ≤ i) → get_or new (to i) 0 ≡ get_or old (from i) 0
          cell to from i a before same here (inl b) = same b ∙ before i b
          cell to from i a before same here (inr b) =
              let at : s ≡ i = omega (arith, a, b) in
              subst (λ (k : ℕ). get_or new (to k) 0 ≡ get_or old (from k) 0) at here

-- of the sides of a part
pub packed_shared : (t : Part) (v : ℕ) (old new : List ℕ) → v ≡ t.vertices → PairedSides t old → Packed v old new → SharedSegments t new
packed_shared t v old new e h m =
    record {
      long = omega (arith, m.long, h.long);
      ends = λ s l. m.ends s (omega (arith, l, e)) ∙ h.ends s l;
      owners = λ s l. m.owners s (omega (arith, l, e)) ∙ h.owners s l;
      pairs = λ s l. m.pairs s (omega (arith, l, e)) ∙ h.pairs s l;
    }
