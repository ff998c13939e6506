-- The kinds of the faces, as the bends read them: kind 1 is convex, and kind 2 concave and no hole. The first face around a concave one.
use mathlib.Core.Path.{◌≡◌, refl, sym, ap, ◌∙◌, subst}
use mathlib.Core.Bool.{Bool, true, false, not, ◌&&◌, cond}
use mathlib.Core.Logic.{◌⊎◌, inl, inr}
use Prim.Native.Nat.{ℕ, ◌+◌, ◌≤◌, ◌<◌}
use native.Mathlib.Omega.{arith}
use lib.Dec.{eqb}
use lib.Ieee.{Float}
use borrow.Author.Tests.{eq-eqb, ne_eqb, lt-ltb, le-ltb}
use Rattle.std.specs.Prelude.{Option, Some, None}
use Rattle.num_float.proofs.Tests.{and_left, and_false_left, lt_or_ge}
use Rattle.list_laws.proofs.Count.{lowest_is}
use Rattle.file_part.specs.Part.{Part}
use Rattle.solid_faces.specs.Faces.{faces_of}
use Rattle.round_all.specs.declared.round.Round.{Round}
use Rattle.round_all.specs.Round.{is_round, is_concave, is_hole, round_of}
use Rattle.round_all.specs.Kept.{round_kind}
use Rattle.sheet_bends.specs.Bends.{is_inside, is_around, is_outside, outside_of, is_bend}
use Rattle.sheet_bends.specs.Kept.{bend_of, bend_cell}
use Rattle.sheet_bends.specs.Work.{outside_found}

-- ---- the kinds
is_one : (r c h : Bool) → eqb (cond r (cond c (cond h 3 2) 1) 0) 1 ≡ (r && not c)
is_one true true true = refl
is_one true true false = refl
is_one true false h = refl
is_one false c h = refl

is_two_lem : (r c h : Bool) → eqb (cond r (cond c (cond h 3 2) 1) 0) 2 ≡ (r && (c && not h))
is_two_lem true true true = refl
is_two_lem true true false = refl
is_two_lem true false h = refl
is_two_lem false c h = refl

kind_convex : (t : Part) (f : ℕ) → eqb (round_kind t f) 1 ≡ (is_round t f && not (is_concave t f))
unfolding round_kind
kind_convex t f = is_one (is_round t f) (is_concave t f) (is_hole t f)

pub kind_inside : (t : Part) (f : ℕ) → eqb (round_kind t f) 2 ≡ is_inside t f
unfolding round_kind is_inside
kind_inside t f = is_two_lem (is_round t f) (is_concave t f) (is_hole t f)

-- ---- the inside of a bend
module _ (t : Part) (f k : ℕ) (kind : k ≡ round_kind t f) where
  pub inside_is : k ≡ 2 → is_inside t f ≡ true
  inside_is h = sym (kind_inside t f) ∙ eq-eqb (round_kind t f) 2 (sym kind ∙ h)

  pub inside_not : (k ≡ 2 → ⊥) → is_inside t f ≡ false
  inside_not h = sym (kind_inside t f) ∙ ne_eqb (round_kind t f) 2 (λ e. h (kind ∙ e))

  convex_is : k ≡ 1 → (is_round t f && not (is_concave t f)) ≡ true
  convex_is h = sym (kind_convex t f) ∙ eq-eqb (round_kind t f) 1 (sym kind ∙ h)

  convex_not : (k ≡ 1 → ⊥) → (is_round t f && not (is_concave t f)) ≡ false
  convex_not h = sym (kind_convex t f) ∙ ne_eqb (round_kind t f) 1 (λ e. h (kind ∙ e))

  pub convex_round : k ≡ 1 → is_round t f ≡ true
  convex_round h = and_left (is_round t f) (not (is_concave t f)) (convex_is h)

-- ---- the outside
and_three : (a b c : Bool) → (a && (b && c)) ≡ ((a && b) && c)
and_three true b c = refl
and_three false b c = refl

outside_parts : (t : Part) (thick : Float) (f g : ℕ) → is_outside t thick f g ≡ ((is_round t g && not (is_concave t g)) && is_around thick (round_of t f) (round_of t g))
unfolding is_outside
outside_parts t thick f g = and_three (is_round t g) (not (is_concave t g)) (is_around thick (round_of t f) (round_of t g))

pub outside_not : (t : Part) (thick : Float) (f g k : ℕ) → k ≡ round_kind t g → (k ≡ 1 → ⊥) → is_outside t thick f g ≡ false
outside_not t thick f g k kind h = outside_parts t thick f g ∙ and_false_left _ _ (convex_not t g k kind h)

pub outside_is : (t : Part) (thick : Float) (f g k : ℕ) (inner outer : Round) (b : Bool) → k ≡ round_kind t g → k ≡ 1 → inner ≡ round_of t f → outer ≡ round_of t g →
    b ≡ is_around thick inner outer → is_outside t thick f g ≡ b
outside_is t thick f g k inner outer b kind one ei eo e = outside_parts t thick f g ∙ rw (convex_is t g k kind one, e, ei, eo)

-- ---- none of the faces below g
pub none_more : (test : ℕ → Bool) (g : ℕ) → ((i : ℕ) → i < g → test i ≡ false) → test g ≡ false → (i : ℕ) → i < g + 1 → test i ≡ false
none_more test g before here i l = go (lt_or_ge i g)
  where
    go : (i < g) ⊎ (g ≤ i) → test i ≡ false
    go (inl below) = before i below
    go (inr above) =
        let same : g ≡ i = omega (arith, l, above) in
        subst (λ (k : ℕ). test k ≡ false) same here

pub first_outside : (t : Part) (thick : Float) (f n g : ℕ) → n ≡ faces_of t → g < n → ((i : ℕ) → i < g → is_outside t thick f i ≡ false) →
    is_outside t thick f g ≡ true → g ≡ outside_of t thick f
unfolding outside_of
first_outside t thick f n g all l none here = sym (lowest_is (faces_of t) (is_outside t thick f) g (omega (arith, l, all)) (λ m. here) none)

pub no_outside : (t : Part) (thick : Float) (f n g : ℕ) → n ≡ faces_of t → n ≤ g → ((i : ℕ) → i < g → is_outside t thick f i ≡ false) → n ≡ outside_of t thick f
unfolding outside_of
no_outside t thick f n g all l none =
    sym (lowest_is (faces_of t) (is_outside t thick f) n (omega (arith, all)) (λ m. absurd (omega (arith, m, all))) (λ i m. none i (omega (arith, m, l))))

pub outside_some : (t : Part) (thick : Float) (f n g : ℕ) → n ≡ faces_of t → g < n → ((i : ℕ) → i < g → is_outside t thick f i ≡ false) →
    is_outside t thick f g ≡ true → Some g ≡ outside_found t thick f
unfolding outside_found
outside_some t thick f n g all l none here =
    let e = first_outside t thick f n g all l none here in
    rw (lt-ltb (outside_of t thick f) (faces_of t) (omega (arith, l, all, e))) (ap Some e)

pub outside_none : (t : Part) (thick : Float) (f n g : ℕ) → n ≡ faces_of t → n ≤ g → ((i : ℕ) → i < g → is_outside t thick f i ≡ false) → None ≡ outside_found t thick f
unfolding outside_found
outside_none t thick f n g all l none =
    let e = no_outside t thick f n g all l none in
    rw (le-ltb (outside_of t thick f) (faces_of t) (omega (arith, all, e)))

-- ---- the bend of a face
pub bend_outer : (t : Part) (thick : Float) (f : ℕ) → is_inside t f ≡ false → None ≡ bend_of t thick f
unfolding bend_of is_bend
bend_outer t thick f h = rw (h)

pub bend_inner : (t : Part) (thick : Float) (f : ℕ) (r : Option ℕ) → is_inside t f ≡ true → r ≡ outside_found t thick f → r ≡ bend_of t thick f
unfolding bend_of outside_found is_bend
bend_inner t thick f r h e = e ∙ rw (h)

-- ---- the cell of a face
pub cell_outer : (t : Part) (thick : Float) (f : ℕ) → is_inside t f ≡ false → 0 ≡ bend_cell t thick f
unfolding bend_cell is_bend
cell_outer t thick f h = rw (h)

pub cell_alone : (t : Part) (thick : Float) (f n g : ℕ) → n ≡ faces_of t → is_inside t f ≡ true → g ≡ outside_of t thick f → n ≤ g → 0 ≡ bend_cell t thick f
unfolding bend_cell is_bend
cell_alone t thick f n g all h e l = rw (h, le-ltb (outside_of t thick f) (faces_of t) (omega (arith, l, all, e)))

pub cell_bend : (t : Part) (thick : Float) (f n g : ℕ) → n ≡ faces_of t → is_inside t f ≡ true → g ≡ outside_of t thick f → g < n → g + 1 ≡ bend_cell t thick f
unfolding bend_cell is_bend
cell_bend t thick f n g all h e l = rw (h, lt-ltb (outside_of t thick f) (faces_of t) (omega (arith, l, all, e))) (omega (arith, e))
