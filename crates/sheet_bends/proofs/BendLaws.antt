-- What a bend is: its two faces, its cell, and all that stands in the scratch once the bends are put.
use mathlib.Core.Path.{◌≡◌, refl, sym, ap}
use mathlib.Core.Bool.{Bool, true, false, cond}
use mathlib.Core.List.{List}
use Prim.Native.Nat.{ℕ, zero, suc, ◌+◌, ◌-◌, ◌≤◌, ◌<◌}
use native.Mathlib.Omega.{arith}
use lib.Dec.{ltb}
use lib.Ieee.{Float, nan}
use borrow.Author.Tests.{ltb-true}
use Rattle.std.specs.Prelude.{Option, Some, None, SomeIff}
use Rattle.num_float.proofs.Tests.{and_left, and_right}
use Rattle.list_laws.specs.Region.{Outside}
use Rattle.list_laws.proofs.Count.{lowest_passes}
use Rattle.list_laws.proofs.Outside.{outside_none, outside_wide}
use Rattle.file_part.specs.Part.{Part, part_of}
use Rattle.solid_faces.specs.Faces.{faces_of}
use Rattle.scratch.specs.declared.regions.Regions.{Regions}
use Rattle.scratch.specs.Standing.{Standing}
use Rattle.solid_ranks.specs.Kept.{SortsOnly}
use Rattle.solid_ranks.proofs.KeptLaws.{sorts_only, only_standing}
use Rattle.solid_tours.specs.Work.Kept.{EdgesOrdered}
use Rattle.solid_tours.specs.Work.Kept as tours
use Rattle.solid_tours.proofs.KeptLaws.{ordered_kept}
use Rattle.wall_pairs.proofs.KeptLaws.{rounds_kept}
use Rattle.round_all.specs.Round.{is_round}
use Rattle.round_all.specs.Kept.{Rounds}
use Rattle.sheet_bends.specs.declared.Sheet.{Sheet}
use Rattle.sheet_bends.specs.Bends.{is_inside, is_outside, outside_of, is_bend}
use Rattle.sheet_bends.specs.Kept.{bend_of, bend_cell, BendsPut}
use Rattle.sheet_bends.specs.Work.{SheetStands}

-- ---- its two faces
bend_inside : (t : Part) (thick : Float) (f : ℕ) → is_bend t thick f ≡ true → is_inside t f ≡ true
unfolding is_bend
bend_inside t thick f h = and_left (is_inside t f) (ltb (outside_of t thick f) (faces_of t)) h

bend_below : (t : Part) (thick : Float) (f : ℕ) → is_bend t thick f ≡ true → outside_of t thick f < faces_of t
unfolding is_bend
bend_below t thick f h = ltb-true (outside_of t thick f) (faces_of t) (and_right (is_inside t f) (ltb (outside_of t thick f) (faces_of t)) h)

pub inside_round : (t : Part) (f : ℕ) → is_inside t f ≡ true → is_round t f ≡ true
unfolding is_inside
inside_round t f h = and_left _ _ h

outside_round : (t : Part) (thick : Float) (f g : ℕ) → is_outside t thick f g ≡ true → is_round t g ≡ true
unfolding is_outside
outside_round t thick f g h = and_left _ _ h

outside_passes : (t : Part) (thick : Float) (f : ℕ) → outside_of t thick f < faces_of t → is_outside t thick f (outside_of t thick f) ≡ true
unfolding outside_of
outside_passes t thick f l = lowest_passes (faces_of t) (is_outside t thick f) l

pub bend_faces : (t : Part) (thick : Float) (f : ℕ) → is_bend t thick f ≡ true →
    (is_round t f ≡ true) × (outside_of t thick f < faces_of t) × (is_round t (outside_of t thick f) ≡ true)
bend_faces t thick f h =
    let low = bend_below t thick f h in
    (inside_round t f (bend_inside t thick f h), low, outside_round t thick f (outside_of t thick f) (outside_passes t thick f low))

-- ---- its outside, where there is one
found_none : (b : Bool) (n : ℕ) → None ≡ cond b (Some n) None → b ≡ false
found_none true n h = cc
found_none false n h = refl

found_some : (b : Bool) (n g : ℕ) → Some g ≡ cond b (Some n) None → (b ≡ true) × (g ≡ n)
found_some true n g h = (refl, cc)
found_some false n g h = (cc, cc)

pub no_bend : (t : Part) (thick : Float) (f : ℕ) → None ≡ bend_of t thick f → is_bend t thick f ≡ false
unfolding bend_of
no_bend t thick f h = found_none (is_bend t thick f) (outside_of t thick f) h

pub some_bend : (t : Part) (thick : Float) (f g : ℕ) → Some g ≡ bend_of t thick f → (is_bend t thick f ≡ true) × (g ≡ outside_of t thick f)
unfolding bend_of
some_bend t thick f g h = found_some (is_bend t thick f) (outside_of t thick f) g h

pub outside_below : (t : Part) (thick : Float) (f g : ℕ) → Some g ≡ bend_of t thick f → g < faces_of t
outside_below t thick f g h = let b = some_bend t thick f g h in omega (arith, b.1, bend_below t thick f b.0)

-- ---- its cell
pub none_cell : (t : Part) (thick : Float) (f : ℕ) → None ≡ bend_of t thick f → 0 ≡ bend_cell t thick f
unfolding bend_cell
none_cell t thick f h = rw (no_bend t thick f h)

pub some_cell : (t : Part) (thick : Float) (f g : ℕ) → Some g ≡ bend_of t thick f → g + 1 ≡ bend_cell t thick f
unfolding bend_cell
some_cell t thick f g h = let b = some_bend t thick f g h in rw (b.0) (omega (arith, b.1))

cell_none : (b : Bool) (n : ℕ) → cond b (suc n) 0 ≡ 0 → b ≡ false
cell_none true n h = absurd (omega (arith, h))
cell_none false n h = refl

cell_some : (b : Bool) (n g : ℕ) → cond b (suc n) 0 ≡ suc g → (b ≡ true) × (g ≡ n)
cell_some true n g h = (refl, omega (arith, h))
cell_some false n g h = absurd (omega (arith, h))

pub bend_none : (t : Part) (thick : Float) (f : ℕ) → bend_cell t thick f ≡ 0 → is_bend t thick f ≡ false
unfolding bend_cell
bend_none t thick f h = cell_none (is_bend t thick f) (outside_of t thick f) h

pub bend_some : (t : Part) (thick : Float) (f g : ℕ) → bend_cell t thick f ≡ suc g → (is_bend t thick f ≡ true) × (g ≡ outside_of t thick f)
unfolding bend_cell
bend_some t thick f g h = cell_some (is_bend t thick f) (outside_of t thick f) g h

-- the same of a number that was read
pub bend_is : (t : Part) (thick : Float) (f r : ℕ) → r ≡ bend_cell t thick f → (r ≡ 0 → ⊥) → (is_bend t thick f ≡ true) × (r ≡ suc (outside_of t thick f))
bend_is t thick f zero e z = absurd (z refl)
bend_is t thick f (suc g) e z = let b = bend_some t thick f g (sym e) in (b.0, ap suc b.1)

-- a cell that is read, less 1
read_back : (b : Bool) (n x : ℕ) (r : Option ℕ) → x ≡ cond b (suc n) 0 → SomeIff r (1 ≤ x) (x - 1) → r ≡ cond b (Some n) None
read_back true n x None e h = absurd (h (omega (arith, e)))
read_back true n x (Some g) e h = ap Some (omega (arith, h.1, e))
read_back false n x None e h = refl
read_back false n x (Some g) e h = absurd (omega (arith, e, h.0))

pub bend_read : (t : Part) (thick : Float) (f x : ℕ) (r : Option ℕ) → x ≡ bend_cell t thick f → SomeIff r (1 ≤ x) (x - 1) → r ≡ bend_of t thick f
unfolding bend_cell bend_of
bend_read t thick f x r e h = read_back (is_bend t thick f) (outside_of t thick f) x r e h

-- ---- changes of the order's cells keep the body and the rounds
module _ (s : List ℕ) (at : Regions) (words words' : List ℕ) (reals : List Float) (g : Standing s at words reals) (w : Outside 0 at.order at.kinds words words') where
  order_only : SortsOnly at words words' reals reals
  order_only = sorts_only at words words' reals reals g.placed.laid w (outside_none nan at.falling at.thickness reals)

  pub order_standing : Standing s at words' reals
  order_standing = only_standing s at words words' reals reals order_only g

  pub order_rounds : Rounds (part_of s) at words reals → Rounds (part_of s) at words' reals
  order_rounds h = rounds_kept s at words words' reals reals order_only g h

-- ---- all that stands once the bends are put
pub sheet_stands : (s : List ℕ) (sheet : Sheet) (words words' : List ℕ) (reals : List Float) (r : ℕ) → EdgesOrdered s sheet.edges.at words reals →
    tours.Counted (part_of s) sheet.edges → Rounds (part_of s) sheet.edges.at words reals →
    BendsPut (part_of s) sheet.thickness sheet.edges.at words words' r → SheetStands s sheet words' reals
sheet_stands s sheet words words' reals r o c h b =
    let at = sheet.edges.at in
    let laid = o.standing.placed.laid in
    record {
      ordered = ordered_kept s at words words' reals reals o
          (outside_wide 0 at.order at.kinds at.readings at.ranks words words' (omega (arith, laid)) (omega (arith, laid)) b.kept)
          (outside_none nan at.falling at.directions reals);
      counted = c;
      rounds = order_rounds s at words words' reals o.standing b.kept h;
      bends = b.bends;
    }
