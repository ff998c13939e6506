-- The columns filled from an accepted file, side by side: columns 0 to 3, and the polygon in column 4.
use mathlib.Core.Path.{◌≡◌, sym, ap, ◌∙◌, subst}
use mathlib.Core.Logic.{⊎_elim}
use mathlib.Core.List.{List}
use Prim.Native.Nat.{ℕ, ◌+◌, ◌*◌, ◌≤◌, ◌<◌}
use native.Mathlib.Omega.{arith}
use lib.ListN.{length, set}
use Rattle.math.specs.Size.{VecWithin}
use Rattle.file_field.specs.Field.{vec_at_of}
use Rattle.file_part.specs.Layout.{vertex_count_of, polygon_count_of, entry_at}
use Rattle.file_part.specs.Part.{first_at, count_at_of, Part, part_of}
use Rattle.file_ok.specs.Work.{Readable}
use Rattle.file_ok.proofs.ReadableLaws.{readable_length, readable_counts, readable_run, readable_whole, readable_vertex}
use Rattle.solid_segments.specs.Sides.{next_of, to_of}
use Rattle.solid_segments.specs.Work.{side_row, Lent, Placed, PlacedBelow, OwnsMore, start_of, RunAt, OwnsRun}
use Rattle.solid_keys.proofs.CountLaws.{newest}
use Rattle.solid_keys.proofs.CellLaws.{put_cell, keep_cell}
use Rattle.solid_segments.proofs.RunLaws.{first_start, next_start, start_inside, owner_is, to_is, to_inside}
use Rattle.solid_segments.proofs.RowLaws.{row_x, row_y, row_z, row_end, row_other}

-- ---- what is lent
pub lent_of : {file mem : List ℕ} {v : ℕ} → Readable file → length mem ≡ 8 * vertex_count_of file → v ≡ vertex_count_of file → Lent file mem v
lent_of h long e = record { readable = h; is_count = e; long = long ∙ ap (λ (k : ℕ). 8 * k) (sym e) }

pub lent_still : {file mem new : List ℕ} {v : ℕ} → Lent file mem v → length new ≡ length mem → Lent file new v
lent_still lent e = record { readable = lent.readable; is_count = lent.is_count; long = e ∙ lent.long }

-- ---- the run of polygon p, as it is read
module _ (file : List ℕ) (v p : ℕ) (readable : Readable file) (is_count : v ≡ vertex_count_of file) (inside : p < polygon_count_of file) where
  pub entry_small : (v ≤ 16384) × (p < 4096)
  entry_small = (omega (arith, (readable_counts file readable).0), omega (arith, (readable_counts file readable).1))

  pub entry_room : (at : ℕ) → at ≡ entry_at v p → at + 80 ≤ length file
  entry_room at e = omega (arith, readable_length file readable)

  pub run_at : (at first count : ℕ) → at ≡ entry_at v p → first ≡ first_at file at → count ≡ count_at_of file at → RunAt file v p first (first + count)
  run_at at first count e f c =
      let place : at ≡ entry_at (vertex_count_of file) p = e ∙ ap (λ (k : ℕ). entry_at k p) is_count in
      let begin : first ≡ start_of file p = f ∙ ap (first_at file) place ∙ (readable_run file readable p inside).first in
      let many : count ≡ count_at_of file (entry_at (vertex_count_of file) p) = c ∙ ap (count_at_of file) place in
      let finish : first + count ≡ start_of file (p + 1) = omega (arith, begin, many, next_start file readable p) in
      record {
        first_is = begin;
        end_is = finish;
        rises = omega arith;
        below = omega (arith, finish, start_inside file readable p inside);
        few = entry_small.0;
        low = entry_small.1;
      }

-- ---- a side of that run
pub record SideAt (file mem : List ℕ) (v p first end s : ℕ) : Type 0 where
  pub inside : p < polygon_count_of file
  pub lent : Lent file mem v
  pub run : RunAt file v p first end
  pub from : first ≤ s
  pub before : s < end

module _ {file mem : List ℕ} {v p first end s : ℕ} (at : SideAt file mem v p first end s) where
  abbrev t : Part
  t = part_of file

  after_start : start_of file p ≤ s
  after_start = omega (arith, at.from, at.run.first_is)

  before_end : s < start_of file (p + 1)
  before_end = omega (arith, at.before, at.run.end_is)

  pub side_below : s < v
  side_below = omega (arith, at.before, at.run.below)

  pub side_room : s * 8 + 8 ≤ length mem
  side_room = omega (arith, side_below, at.lent.long)

  pub side_within : VecWithin (vec_at_of file (24 * s)) 10000
  side_within = readable_vertex file at.lent.readable s (omega (arith, side_below, at.lent.is_count))

  pub vertex_room : 24 * s + 24 ≤ length file
  vertex_room = omega (arith, side_below, readable_length file at.lent.readable, at.lent.is_count)

  end_of : to_of t s ≡ next_of first end s
  end_of = rw (at.run.first_is, at.run.end_is) (to_is file at.lent.readable p s at.inside after_start before_end)

  to_below : to_of t s < vertex_count_of file
  to_below = to_inside file at.lent.readable p s at.inside after_start before_end

  pub next_below : next_of first end s < v
  next_below = omega (arith, end_of, to_below, at.lent.is_count)

  -- ---- its cells in columns 0 to 3
  abbrev row : List ℕ
  row = side_row (vec_at_of file (24 * s)) s (next_of first end s) mem

  placed_here : Placed t row s
  unfolding part_of
  placed_here =
      let w = vec_at_of file (24 * s) in
      let to = next_of first end s in
      record {
        x = row_x w mem s to side_room;
        y = row_y w mem s to side_room;
        z = row_z w mem s to side_room;
        end = row_end w mem s to side_room ∙ sym end_of;
      }

  placed_other : PlacedBelow t mem s → (u : ℕ) → u < s → Placed t row u
  unfolding PlacedBelow
  placed_other h u l =
      let w = vec_at_of file (24 * s) in
      let to = next_of first end s in
      let d : u ≡ s → ⊥ = λ e. omega arith in
      record {
        x = row_other w mem s to 0 u (omega arith) d ∙ (h u l).x;
        y = row_other w mem s to 1 u (omega arith) d ∙ (h u l).y;
        z = row_other w mem s to 2 u (omega arith) d ∙ (h u l).z;
        end = row_other w mem s to 3 u (omega arith) d ∙ (h u l).end;
      }

  placed_row : PlacedBelow t mem s → PlacedBelow t row (s + 1)
  unfolding PlacedBelow
  placed_row h = λ u l. ⊎_elim (λ e. rw e placed_here) (placed_other h u) (newest u s (omega arith))

  pub placed_more : (new : List ℕ) (to : ℕ) → to ≡ next_of first end s → new ≡ side_row (vec_at_of file (24 * s)) s to mem
      → PlacedBelow t mem s → PlacedBelow t new (s + 1)
  placed_more new to e is h =
      subst (λ (m : List ℕ). PlacedBelow t m (s + 1)) (sym (is ∙ ap (λ (k : ℕ). side_row (vec_at_of file (24 * s)) s k mem) e)) (placed_row h)

  -- ---- its polygon in column 4
  pub owned_more : (before : List ℕ) (i : ℕ) → OwnsMore t before mem i s → OwnsMore t before (set mem (s * 8 + 4) p) i (s + 1)
  unfolding OwnsMore
  owned_more before i f = λ old g.
      let h = f old g in
      let put = put_cell mem 4 s p (omega (arith, side_room)) in
      record {
        owners = λ u l.
            ⊎_elim
            (λ e. rw e (put.there ∙ sym (owner_is file at.lent.readable p s at.inside after_start before_end)))
            (λ k. put.else u (λ e. omega arith) ∙ h.owners u k)
            (newest u s (omega arith));
        others = λ j l d u. keep_cell mem 4 j s p (omega arith) l d u ∙ h.others j l d u;
      }

-- ---- a whole run
module _ {file : List ℕ} {v p first end : ℕ} (run : RunAt file v p first end) where
  pub placed_start : (mem : List ℕ) → PlacedBelow (part_of file) mem (start_of file p) → PlacedBelow (part_of file) mem first
  placed_start mem h = subst (λ (k : ℕ). PlacedBelow (part_of file) mem k) (sym run.first_is) h

  pub placed_end : (s : ℕ) → s ≡ end → (mem : List ℕ) → PlacedBelow (part_of file) mem s → PlacedBelow (part_of file) mem (start_of file (p + 1))
  placed_end s over mem h = subst (λ (k : ℕ). PlacedBelow (part_of file) mem k) (over ∙ run.end_is) h

  pub owns_run : (s : ℕ) → s ≡ end → (mem new : List ℕ) → OwnsMore (part_of file) mem new (start_of file p) s → OwnsRun file mem new p
  owns_run s over mem new h = rw (← run.end_is, ← over) h

pub owns_none : (t : Part) (mem : List ℕ) (i : ℕ) → OwnsMore t mem mem i i
unfolding OwnsMore
owns_none t mem i = λ old h. h

pub owns_join : (t : Part) (a b c : List ℕ) (i j k : ℕ) → OwnsMore t a b i j → OwnsMore t b c j k → OwnsMore t a c i k
unfolding OwnsMore
owns_join t a b c i j k f g = λ old h. g old (f old h)

-- ---- all runs
pub placed_first : (file mem : List ℕ) → PlacedBelow (part_of file) mem (start_of file 0)
unfolding PlacedBelow
placed_first file mem = λ s l. absurd (omega (arith, first_start file))

module _ {file mem : List ℕ} {v : ℕ} (lent : Lent file mem v) (p : ℕ) (over : p ≡ polygon_count_of file) where
  last_start : start_of file p ≡ v
  last_start = ap (start_of file) over ∙ readable_whole file lent.readable ∙ sym lent.is_count

  pub placed_all : (new : List ℕ) → PlacedBelow (part_of file) new (start_of file p) → PlacedBelow (part_of file) new v
  placed_all new h = subst (λ (k : ℕ). PlacedBelow (part_of file) new k) last_start h

  pub owns_all : (new : List ℕ) → OwnsMore (part_of file) mem new (start_of file 0) (start_of file p) → OwnsMore (part_of file) mem new 0 v
  owns_all new h =
      subst (λ (k : ℕ). OwnsMore (part_of file) mem new k v) (first_start file)
      (subst (λ (k : ℕ). OwnsMore (part_of file) mem new (start_of file 0) k) last_start h)
