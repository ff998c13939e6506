-- The rule: whether corners are reached, the fault of two faces, and the walk over all of them.
use mathlib.Core.Path.{◌≡◌, refl, sym, ap, ap₂, ◌∙◌, subst}
use mathlib.Core.Bool.{Bool, true, false, ◌||◌, cond}
use mathlib.Core.List.{List, [], ◌∷◌, ◌++◌, Memᴰ}
use Prim.Native.Nat.{ℕ, ◌≤◌, ◌<◌}
use native.Mathlib.Omega.{arith}
use lib.ListN.{length}
use lib.Ieee.{Float}
use Rattle.list_laws.specs.Region.{part}
use Rattle.list_laws.proofs.Regions.{part_length}
use Rattle.math.specs.declared.Vec3.{Vec3}
use Rattle.math.specs.Vector.{zero, plus, times}
use Rattle.file_part.specs.Part.{Part, part_of}
use Rattle.scratch.specs.declared.regions.Regions.{Regions}
use Rattle.wall_ray.specs.Nearest.{is_open}
use Rattle.fault_row.specs.declared.flaw.Flaw.{Flaw}
use Rattle.fault_row.specs.declared.flaw.Flaw.TheVariants.{SharpInsideCorner}
use Rattle.fault_row.specs.Row.{RowPut}
use Rattle.fault_row.specs.Flaw.{row_of}
use Rattle.fault_row.specs.Flaws.{FlawsPut}
use Rattle.fault_row.proofs.FlawLaws.{flaws_none, flaws_one, flaws_same, flaws_then}
use Rattle.fault_text.specs.Good.{Good}
use Rattle.rule_corners.specs.declared.corner.Corner.{Corner}
use Rattle.rule_corners.specs.declared.corner.NextCorner.{NextCorner}
use Rattle.rule_corners.specs.declared.sharp.Group.{Group}
use Rattle.rule_corners.specs.Corners.{corner_count, length_from_of, corner_of_word}
use Rattle.rule_corners.specs.Work.{corner_order, CornersOrdered, NextCornerIs, GroupThere, SharpTo}
use Rattle.rule_corners.specs.Sharp.{thousandth, is_reached, fillet_of, sharp_corner, sharp_corners}
use Rattle.rule_corners.proofs.SizeLaws.{length_accepted, fillet_accepted}
use Rattle.rule_corners.proofs.WalkLaws.{most, order_long, corners_start, next_corner, corners_end, corners_below}

-- ---- the two looks
module _ (t : Part) (c : Corner) (m p : Vec3) (b : Bool) (em : m ≡ times c.high thousandth) (ep : p ≡ plus c.mid m) (eb : b ≡ is_open t p c.low) where
  first_look : b ≡ is_open t (plus c.mid (times c.high thousandth)) c.low
  first_look = eb ∙ ap (λ (x : Vec3). is_open t x c.low) (ep ∙ ap (plus c.mid) em)

  pub reached_first : b ≡ true → true ≡ is_reached t c
  unfolding is_reached
  reached_first e = ap (λ (x : Bool). x || is_open t (plus c.mid (times c.low thousandth)) c.high) (sym e ∙ first_look)

  pub reached_second : (m' p' : Vec3) (b' : Bool) → b ≡ false → m' ≡ times c.low thousandth → p' ≡ plus c.mid m' → b' ≡ is_open t p' c.high → b' ≡ is_reached t c
  unfolding is_reached
  reached_second m' p' b' e em' ep' eb' =
      eb' ∙ ap (λ (x : Vec3). is_open t x c.high) (ep' ∙ ap (plus c.mid) em')
      ∙ ap (λ (x : Bool). x || is_open t (plus c.mid (times c.low thousandth)) c.high) (sym e ∙ first_look)

-- ---- the fault of two faces
module _ (s : List ℕ) (words : List ℕ) (reals : List Float) (g : Group) (o : CornersOrdered s g.at words reals) (there : GroupThere (part_of s) g) (c : Corner) (b : Bool)
    (ec : c ≡ corner_of_word (part_of s) (part g.from g.end (corner_order g.at words))) (eb : b ≡ is_reached (part_of s) c) where
  abbrev t : Part
  t = part_of s

  abbrev items : List ℕ
  items = part g.from g.end (corner_order g.at words)

  abbrev flaws : List Flaw
  flaws = sharp_corner t g.first g.second (corner_of_word t items)

  chosen : (v : Bool) → b ≡ v → cond v [] (SharpInsideCorner g.first g.second (corner_of_word t items).length (fillet_of (corner_of_word t items).length) ∷ []) ≡ flaws
  unfolding sharp_corner
  chosen v e = ap (λ (x : Bool). cond x [] (SharpInsideCorner g.first g.second (corner_of_word t items).length (fillet_of (corner_of_word t items).length) ∷ [])) (sym e ∙ eb ∙ ap (is_reached t) ec)

  pub sharp_none : (cells : List ℕ) (numbers : List Float) → b ≡ true → FlawsPut (Good t) g.before flaws cells cells numbers numbers g.before
  sharp_none cells numbers e = flaws_same (chosen true e) (flaws_none g.before cells numbers)

  length_of_lem : (l : List ℕ) → (corner_of_word t l).length ≡ length_from_of t zero l
  unfolding corner_of_word length_from_of
  length_of_lem [] = refl
  length_of_lem (k ∷ l) = refl

  few : length items ≤ 16384
  few =
      omega (
        arith,
        part_length g.from g.end (corner_order g.at words) (omega (arith, there.inside, order_long s g.at words reals o)),
        there.inside,
        most s g.at words reals o,
        o.standing.placed.laid,
      )

  pub sharp_one : (y : Float) (r : ℕ) (cells cells' : List ℕ) (numbers numbers' : List Float) → b ≡ false → y ≡ fillet_of c.length →
      RowPut g.before (row_of (SharpInsideCorner g.first g.second c.length y)) cells cells' numbers numbers' r →
      FlawsPut (Good t) g.before flaws cells cells' numbers numbers' r
  unfolding Good
  sharp_one y r cells cells' numbers numbers' e ey put =
      flaws_same one
      (flaws_one (SharpInsideCorner g.first g.second x z) (subst (λ (f : Flaw). RowPut g.before (row_of f) cells cells' numbers numbers' r) found put)
      (there.first_below, there.second_below, length_accepted s o.standing.placed.checked items inside few, fillet_accepted s o.standing.placed.checked items inside few))
    where
      x : Float
      x = length_from_of t zero items

      z : Float
      z = fillet_of x

      size : c.length ≡ x
      size = ap (λ (k : Corner). k.length) ec ∙ length_of_lem items

      found : SharpInsideCorner g.first g.second c.length y ≡ SharpInsideCorner g.first g.second x z
      found = ap₂ (SharpInsideCorner g.first g.second) size (ey ∙ ap fillet_of size)

      inside : (k : ℕ) → Memᴰ k items → k < corner_count t
      inside = corners_below s g.at words reals o g.from g.end there.inside

      one : SharpInsideCorner g.first g.second x z ∷ [] ≡ flaws
      one =
          ap (λ (w : Float). SharpInsideCorner g.first g.second w (fillet_of w) ∷ []) (sym (length_of_lem items)) ∙ chosen false e

-- ---- the walk
pub sharp_start : (t : Part) (from : ℕ) (cells : List ℕ) (numbers : List Float) → SharpTo t 0 from from cells cells numbers numbers
sharp_start t from cells numbers = record { out = []; met = corners_start t _; put = flaws_none from cells numbers }

pub sharp_more : (s : List ℕ) (at : Regions) (words : List ℕ) (reals : List Float) → CornersOrdered s at words reals → (i from k r : ℕ) (next : NextCorner) (c0 c1 c2 : List ℕ) (n0 n1 n2 : List Float) →
    NextCornerIs (part_of s) at words reals i next → SharpTo (part_of s) i from k c0 c1 n0 n1 →
    FlawsPut (Good (part_of s)) k (sharp_corner (part_of s) next.first next.second (corner_of_word (part_of s) (part i next.end (corner_order at words)))) c1 c2 n1 n2 r →
    SharpTo (part_of s) next.end from r c0 c2 n0 n2
sharp_more s at words reals o i from k r next c0 c1 c2 n0 n1 n2 is so put =
    record {
      out = so.out ++ sharp_corner (part_of s) next.first next.second (corner_of_word (part_of s) (part i next.end (corner_order at words)));
      met = next_corner s at words reals o _ i next is so.out so.met;
      put = flaws_then so.put put;
    }

pub sharp_end : (s : List ℕ) (at : Regions) (words : List ℕ) (reals : List Float) → CornersOrdered s at words reals → (i from k : ℕ) (c0 c1 : List ℕ) (n0 n1 : List Float) →
    corner_count (part_of s) ≤ i → SharpTo (part_of s) i from k c0 c1 n0 n1 → FlawsPut (Good (part_of s)) from (sharp_corners (part_of s)) c0 c1 n0 n1 k
unfolding sharp_corners
sharp_end s at words reals o i from k c0 c1 n0 n1 l so = flaws_same (corners_end s at words reals o _ i so.out l so.met) so.put
