-- A segment that is kept: the squared distance from it, and the seven stores that keep it.
use mathlib.Core.Path.{◌≡◌, refl, ap, ◌∙◌}
use mathlib.Core.List.{List, [], ◌∷◌}
use Prim.Native.Nat.{ℕ, ◌+◌, ◌≤◌, ◌<◌}
use native.Mathlib.Omega.{arith}
use lib.ListN.{length, get_or, set, length-set}
use lib.Seq.{get_or-set_same, get_or-set_other}
use lib.Ieee.{Float, nan}
use Rattle.list_laws.specs.Region.{Outside}
use Rattle.list_laws.proofs.Stores.{stores, stores_length, stores_below, stores_above, stores_at}
use Rattle.math.specs.declared.Vec3.{Vec3}
use Rattle.math.specs.Vector.{minus, length_sq_of}
use Rattle.solid_distance.specs.declared.kept.Segment.{Segment}
use Rattle.solid_distance.specs.Segment.{nearest_on}
use Rattle.solid_distance.specs.Kept.{square_to_of}
use Rattle.solid_distance.specs.Work.{segment_of, segment_at_of, put_segment}

-- the point of the segment that is nearest to p is as `nearest_on` has it
pub square_is : (p a b : Vec3) → square_to_of p (segment_of a b) ≡ length_sq_of (minus (nearest_on p a b) p)
unfolding square_to_of segment_of nearest_on
square_is p a b = refl

-- ---- seven stores, of which the first has the place itself and the others are a run after it
module _ (l : List Float) (i : ℕ) (s : Segment) where
  abbrev begun : List Float
  begun = set l i s.start.x

  abbrev rest : List Float
  rest = s.start.y ∷ s.start.z ∷ s.way.x ∷ s.way.y ∷ s.way.z ∷ s.square ∷ []

  run : put_segment l i s ≡ stores begun i 1 rest
  unfolding put_segment
  run = refl

  -- all other numbers are as they were
  pub put_kept : Outside nan i (i + 7) l (put_segment l i s)
  put_kept =
      record {
        below = λ j h.
            ap (λ (k : List Float). get_or k j nan) run ∙ stores_below begun i 1 rest nan j (omega (arith, h))
            ∙ get_or-set_other l i j s.start.x nan (λ e. omega (arith, e, h));
        above = λ j h.
            ap (λ (k : List Float). get_or k j nan) run ∙ stores_above begun i 1 rest nan j (omega (arith, h))
            ∙ get_or-set_other l i j s.start.x nan (λ e. omega (arith, e, h));
        long = ap (λ (k : List Float). length k) run ∙ stores_length begun i 1 rest ∙ length-set l i s.start.x;
      }

  module _ (room : i + 7 ≤ length l) where
    first : get_or (put_segment l i s) i nan ≡ s.start.x
    first =
        ap (λ (k : List Float). get_or k i nan) run ∙ stores_below begun i 1 rest nan i (omega arith)
        ∙ get_or-set_same l i s.start.x nan (omega (arith, room))

    later : (n : ℕ) → n < 6 → get_or (put_segment l i s) (i + (1 + n)) nan ≡ get_or rest n nan
    later n h =
        ap (λ (k : List Float). get_or k (i + (1 + n)) nan) run ∙ stores_at begun i 1 rest nan (omega (arith, room, length-set l i s.start.x)) n h

    pub put_same : segment_at_of (put_segment l i s) i ≡ s
    unfolding segment_at_of
    put_same = rw (first, later 0 (omega arith), later 1 (omega arith), later 2 (omega arith), later 3 (omega arith), later 4 (omega arith), later 5 (omega arith))

-- a segment whose numbers are as they were
pub segment_same : (l m : List Float) (i : ℕ) → ((k : ℕ) → i ≤ k → k < i + 7 → get_or m k nan ≡ get_or l k nan) → segment_at_of m i ≡ segment_at_of l i
unfolding segment_at_of
segment_same l m i h =
    rw (
      h i (omega arith) (omega arith),
      h (i + 1) (omega arith) (omega arith),
      h (i + 2) (omega arith) (omega arith),
      h (i + 3) (omega arith) (omega arith),
      h (i + 4) (omega arith) (omega arith),
      h (i + 5) (omega arith) (omega arith),
      h (i + 6) (omega arith) (omega arith),
    )
