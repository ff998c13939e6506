-- Slices of which only the cells from number a to before number e changed: no change, one change after another, stores and parts that were put,
-- and the parts before and after those cells.
use mathlib.Core.Path.{◌≡◌, refl, sym, ◌∙◌}
use mathlib.Core.List.{List}
use Prim.Native.Nat.{ℕ, ◌+◌, ◌-◌, ◌≤◌, ◌<◌}
use native.Mathlib.Omega.{arith}
use lib.ListN.{length, get_or, set, length-set}
use lib.Seq.{ext_get_or, get_or-set_other}
use borrow.Rule.Slice.PartMut.{put_mid}
use Rattle.list_laws.specs.Region.{part, Outside}
use Rattle.list_laws.proofs.Regions.{part_length, part_place, put_length, put_before, put_after}

-- a part whose cells are as they were
pub part_kept : {X : Type 0} (d : X) (old new : List X) (b e : ℕ) → length new ≡ length old → e ≤ length old →
    ((i : ℕ) → b ≤ i → i < e → get_or new i d ≡ get_or old i d) → part b e new ≡ part b e old
part_kept d old new b e long inside kept =
    let there : length (part b e new) ≡ e - b = part_length b e new (omega (arith, long, inside)) in
    ext_get_or d (part b e new) (part b e old) (there ∙ sym (part_length b e old inside))
    (λ i h.
    let l : i < e - b = omega (arith, h, there) in
    part_place b e new d i l ∙ kept (b + i) (omega arith) (omega (arith, l)) ∙ sym (part_place b e old d i l))

module _ {X : Type 0} (d : X) (a e : ℕ) where
  pub outside_none : (l : List X) → Outside d a e l l
  outside_none l = record { below = λ i h. refl; above = λ i h. refl; long = refl }

  pub outside_then : (l m n : List X) → Outside d a e l m → Outside d a e m n → Outside d a e l n
  outside_then l m n h k =
      record { below = λ i low. k.below i low ∙ h.below i low; above = λ i high. k.above i high ∙ h.above i high; long = k.long ∙ h.long }

  -- more cells may have changed
  pub outside_wide : (b f : ℕ) (l m : List X) → b ≤ a → e ≤ f → Outside d a e l m → Outside d b f l m
  outside_wide b f l m low high h = record { below = λ i k. h.below i (omega (arith, k, low)); above = λ i k. h.above i (omega (arith, k, high)); long = h.long }

  -- one store
  pub outside_set : (l : List X) (i : ℕ) (x : X) → a ≤ i → i < e → Outside d a e l (set l i x)
  outside_set l i x ai ie =
      record {
        below = λ k h. get_or-set_other l i k x d (λ q. omega (arith, q, h, ai));
        above = λ k h. get_or-set_other l i k x d (λ q. omega (arith, q, h, ie));
        long = length-set l i x;
      }

  -- two stores
  pub outside_two : (l : List X) (i j : ℕ) (x y : X) → a ≤ i → i < e → a ≤ j → j < e → Outside d a e l (set (set l i x) j y)
  outside_two l i j x y ai ie aj je = outside_then l (set l i x) (set (set l i x) j y) (outside_set l i x ai ie) (outside_set (set l i x) j y aj je)

  -- a part that was lent and put back
  pub outside_put : (l x : List X) → a ≤ e → e ≤ length l → length x ≡ e - a → Outside d a e l (put_mid a (e - a) l x)
  outside_put l x le room lx =
      record {
        below = λ i h. put_before a (e - a) l x d (omega (arith, le, room)) i h;
        above = λ i h. put_after a e l x d le room lx i h;
        long = put_length a e l x room lx;
      }

  -- a part before the cells that changed, and one after them
  pub outside_part : (b f : ℕ) (l m : List X) → f ≤ a → f ≤ length l → Outside d a e l m → part b f m ≡ part b f l
  outside_part b f l m low inside h = part_kept d l m b f h.long inside (λ i g k. h.below i (omega (arith, k, low)))

  pub outside_after : (b f : ℕ) (l m : List X) → e ≤ b → f ≤ length l → Outside d a e l m → part b f m ≡ part b f l
  outside_after b f l m high inside h = part_kept d l m b f h.long inside (λ i g k. h.above i (omega (arith, g, high)))
