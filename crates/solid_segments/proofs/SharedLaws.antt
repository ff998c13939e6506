-- The filled columns say what the part says: its sides of one key, and so the shared segments.
use mathlib.Core.Path.{◌≡◌, refl, sym, ap, ◌∙◌, subst}
use mathlib.Core.Bool.{true}
use mathlib.Core.List.{List}
use Prim.Native.Nat.{ℕ, ◌+◌, ◌*◌, ◌≤◌, ◌<◌}
use native.Mathlib.Omega.{arith}
use lib.Dec.{eqb}
use lib.Ieee.{Float}
use lib.ListN.{length, get_or, take, length-take}
use lib.Seq.{get_or-take}
use Rattle.num_float.specs.Within.{Within}
use Rattle.math.specs.Size.{VecWithin}
use Rattle.file_part.specs.Part.{Part, part_of}
use Rattle.file_ok.proofs.ReadableLaws.{readable_counts, readable_vertex}
use Rattle.solid_segments.specs.Key.{segment_scale, key_part, same_int, same_key_of}
use Rattle.solid_segments.specs.Work.{key_cell, SharedBy, FirstOfMany, cell_of, Lent, PlacedBelow, OwnsMore, PairedSides}
use Rattle.solid_keys.specs.Pair.{pair_of}
use Rattle.solid_keys.specs.Work.{col, same_cells, side_cells, Sides, Paired}
use Rattle.solid_segments.specs.Sides.{to_of, same_end, live, same_side, AloneIn, SharedSegments}
use Rattle.solid_keys.proofs.CellLaws.{kept_column}
use Rattle.solid_keys.proofs.SideLaws.{Alike, side_same, sides_alike, side_self}
use Rattle.solid_keys.proofs.MeaningLaws.{shared_pair, pair_shared, alone_pair, pair_alone, many_pair, pair_many}
use Rattle.solid_keys.proofs.PairLaws.{pair_same}
use Rattle.solid_segments.proofs.RunLaws.{side_owned}
use Rattle.solid_segments.proofs.KeyLaws.{from_zero_same, segment_key_lem, key_self, key_flip, key_join}

-- ---- the keys of a part's vertices and sides
pub ends_self : (t : Part) (a : ℕ) → same_end t a a ≡ true
unfolding same_end
ends_self t a = key_self segment_scale (t.vertex a)

pub ends_alike : (t : Part) → Alike (same_end t)
unfolding same_end
ends_alike t =
    record {
      flip = λ a b h. key_flip segment_scale (t.vertex a) (t.vertex b) h;
      join = λ a b c h g. key_join segment_scale (t.vertex a) (t.vertex b) (t.vertex c) h g;
    }

pub part_sides_alike : (t : Part) → Alike (same_side t)
unfolding same_side
part_sides_alike t = sides_alike (same_end t) (to_of t) (ends_self t) (ends_alike t)

-- a side has a key where it is live
pub part_side_self : (t : Part) (s : ℕ) → same_side t s s ≡ live t s
unfolding same_side live
part_side_self t s = side_self (same_end t) (to_of t) (ends_self t) (ends_alike t) s

-- ---- the columns say what the part says
cell_same : (x y : Float) → Within x 10000 → Within y 10000 → eqb (cell_of x) (cell_of y) ≡ same_int (key_part segment_scale x) (key_part segment_scale y)
unfolding key_cell
cell_same x y p q = from_zero_same 100000000 (key_part segment_scale x) (key_part segment_scale y) (segment_key_lem x p) (segment_key_lem y q)

module _ (file mem : List ℕ) (v : ℕ) (lent : Lent file mem v) (placed : PlacedBelow (part_of file) mem v) where
  abbrev part : Part
  part = part_of file

  near : (a : ℕ) → a < v → VecWithin (part.vertex a) 10000
  unfolding part_of
  near a l = readable_vertex file lent.readable a (omega (arith, lent.is_count))

  ends_same : (a b : ℕ) → a < v → b < v → same_cells mem a b ≡ same_end part a b
  unfolding same_cells same_end same_key_of PlacedBelow
  ends_same a b l m =
      let p = placed a l in
      let q = placed b m in
      let w = near a l in
      let k = near b m in
      rw (
        p.x,
        q.x,
        p.y,
        q.y,
        p.z,
        q.z,
        cell_same (part.vertex a).x (part.vertex b).x w.x_within k.x_within,
        cell_same (part.vertex a).y (part.vertex b).y w.y_within k.y_within,
        cell_same (part.vertex a).z (part.vertex b).z w.z_within k.z_within,
      )

  vertices_are : part.vertices ≡ v
  unfolding part_of
  vertices_are = sym lent.is_count

  to_below : (s : ℕ) → s < v → to_of part s < v
  to_below s l = subst (λ (k : ℕ). to_of part s < k) vertices_are (side_owned file lent.readable s (omega (arith, lent.is_count))).to

  sides_same : (u s : ℕ) → u < v → s < v → side_cells mem u s ≡ same_side part u s
  unfolding side_cells same_side PlacedBelow
  sides_same u s l m = side_same (same_cells mem) (same_end part) (col mem 3) (to_of part) v u s l m (λ k h. (placed k h).end) to_below ends_same

  pub placed_sides : Sides mem v
  unfolding PlacedBelow
  placed_sides =
      record {
        few = omega (arith, readable_counts file lent.readable, lent.is_count);
        room = omega (arith, lent.long);
        ends = λ s l. omega (arith, (placed s l).end, to_below s l);
      }

  pub all_shared : (new last : List ℕ) → Paired mem new v → OwnsMore part new last 0 v → length last ≡ length mem → PairedSides part last
  unfolding OwnsMore PlacedBelow
  all_shared new last paired more long =
      let owned = more new (record { owners = λ s l. absurd (omega arith); others = λ j l d s. refl }) in
      record {
        long = long ∙ lent.long ∙ ap (λ (k : ℕ). 8 * k) (sym vertices_are);
        pairs = λ s l.
            let m : s < v = subst (λ (k : ℕ). s < k) vertices_are l in
            owned.others 7 (omega arith) (λ e. omega arith) s
            ∙ paired.pairs s m
            ∙ pair_same (side_cells mem) (same_side part) v s m (λ u h. sides_same u s h m)
            ∙ ap (λ (k : ℕ). pair_of (same_side part) k s) (sym vertices_are);
        ends = λ s l.
            let m : s < v = subst (λ (k : ℕ). s < k) vertices_are l in
            owned.others 3 (omega arith) (λ e. omega arith) s ∙ kept_column 4 mem new paired.kept 3 (omega arith) s ∙ (placed s m).end;
        owners = λ s l. owned.owners s (subst (λ (k : ℕ). s < k) vertices_are l);
      }

-- ---- the three cells a side alone
pub shared_front : (t : Part) (mem : List ℕ) (n : ℕ) → 3 * t.vertices ≤ n → SharedSegments t mem → SharedSegments t (take n mem)
shared_front t mem n room h =
    record {
      long = simp length-take (omega (arith, h.long, room));
      ends = λ s l. get_or-take n mem (s * 3) 0 (omega (arith, l, room)) ∙ h.ends s l;
      owners = λ s l. get_or-take n mem (s * 3 + 1) 0 (omega (arith, l, room)) ∙ h.owners s l;
      pairs = λ s l. get_or-take n mem (s * 3 + 2) 0 (omega (arith, l, room)) ∙ h.pairs s l;
    }

-- ---- what the pairs mean, by the laws of `MeaningLaws`
module _ (t : Part) (mem : List ℕ) (found : SharedSegments t mem) (s : ℕ) where
  pub segment_shared : (u : ℕ) → s < u → u < t.vertices → get_or mem (s * 3 + 2) 0 ≡ u + 1 → SharedBy t s u
  segment_shared u l m e = pair_shared (same_side t) (part_sides_alike t) t.vertices s u l m (sym (found.pairs s (omega arith)) ∙ e)

  pub shared_segment : (u : ℕ) → SharedBy t s u → get_or mem (s * 3 + 2) 0 ≡ u + 1
  shared_segment u w = found.pairs s (omega (arith, w.order, w.below)) ∙ shared_pair (same_side t) (part_sides_alike t) t.vertices s u w

  pub side_alone : s < t.vertices → get_or mem (s * 3 + 2) 0 ≡ s + 1 → AloneIn t s
  side_alone l e = pair_alone (same_side t) (part_sides_alike t) t.vertices s l (sym (found.pairs s l) ∙ e)

  pub alone_side : AloneIn t s → get_or mem (s * 3 + 2) 0 ≡ s + 1
  alone_side w = found.pairs s w.below ∙ alone_pair (same_side t) (part_sides_alike t) t.vertices s w

  pub side_many : s < t.vertices → get_or mem (s * 3 + 2) 0 ≡ t.vertices + 1 → FirstOfMany t s
  side_many l e = pair_many (same_side t) (part_sides_alike t) t.vertices s (sym (found.pairs s l) ∙ e)

  pub many_side : FirstOfMany t s → get_or mem (s * 3 + 2) 0 ≡ t.vertices + 1
  many_side w = found.pairs s (omega (arith, w.order, w.below)) ∙ many_pair (same_side t) (part_sides_alike t) t.vertices s w
