-- The walk over the readings by pairs of faces, and the least of some readings.
use mathlib.Core.Path.{◌≡◌, refl, sym, ap, ◌∙◌, subst₂}
use mathlib.Core.Bool.{false}
use mathlib.Core.List.{List, [], ◌∷◌, ◌++◌, Memᴰ}
use Prim.Native.Nat.{ℕ, suc, ◌+◌, ◌-◌, ◌≤◌, ◌<◌}
use native.Mathlib.Omega.{arith}
use lib.ListN.{length, get_or, take, drop, length-drop}
use lib.Seq.{take-suc, get_or-drop}
use lib.Ieee.{Float, inf, binary64, of_bits}
use Rattle.num_real.specs.Select.{min_of}
use Rattle.list_laws.specs.Region.{part}
use Rattle.file_part.specs.Part.{Part, part_of}
use Rattle.solid_faces.specs.Faces.{faces_of}
use Rattle.solid_faces.proofs.FaceLaws.{number_below}
use Rattle.scratch.specs.declared.regions.Regions.{Regions}
use Rattle.solid_pairs.proofs.PairLaws.{pairs_start, next_pair, pairs_end, group_below}
use Rattle.wall_samples.specs.Samples.{readings_of}
use Rattle.wall_samples.specs.Stored.{reading}
use Rattle.wall_samples.proofs.ReadingLaws.{readings_inside}
use Rattle.wall_pairs.specs.declared.NextWall.{NextWall}
use Rattle.wall_pairs.specs.Walls.{face_from, face_hit, over_walls, least_from, least_of}
use Rattle.wall_pairs.specs.Work.{reading_keys, reading_order, WallsOrdered, WallsTo, NextWallIs}

-- the faces of a reading are faces of the part
pub walls_inside : (t : Part) (s : ℕ) → s < length (readings_of t) → (face_from t s < faces_of t) × (face_hit t s < faces_of t)
unfolding face_from face_hit
walls_inside t s h = (
  number_below t (reading (readings_of t) s).polygon (readings_inside t s h).polygon,
  number_below t (reading (readings_of t) s).hit (readings_inside t s h).hit,
)

-- ---- the walk
pub walls_start : {X : Type 0} (t : Part) (h : ℕ → ℕ → List ℕ → List X) → WallsTo t h 0 []
unfolding WallsTo
walls_start t h = pairs_start t (face_from t) (face_hit t) (length (readings_of t)) h

pub next_wall : {X : Type 0} (s : List ℕ) (at : Regions) (words : List ℕ) (reals : List Float) → WallsOrdered s at words reals → (i : ℕ) (r : NextWall) →
    NextWallIs (part_of s) at words reals i r → (h : ℕ → ℕ → List ℕ → List X) (out : List X) → WallsTo (part_of s) h i out →
    WallsTo (part_of s) h r.end (out ++ h r.first r.second (part i r.end (reading_order at words)))
unfolding WallsTo
next_wall s at words reals o i r is h out w =
    subst₂ (λ (f g : ℕ). WallsTo (part_of s) h r.end (out ++ h f g (part i r.end (reading_order at words)))) (sym is.first) (sym is.second)
    (next_pair (part_of s) (face_from (part_of s)) (face_hit (part_of s)) (length (readings_of (part_of s))) (walls_inside (part_of s)) h (reading_keys at reals)
    (reading_order at words) o.sorted i r.end is.run out w)

pub walls_end : {X : Type 0} (t : Part) (h : ℕ → ℕ → List ℕ → List X) (i : ℕ) (out : List X) → length (readings_of t) ≤ i → WallsTo t h i out → out ≡ over_walls t h
unfolding WallsTo over_walls
walls_end t h i out past w = pairs_end t (face_from t) (face_hit t) (length (readings_of t)) (walls_inside t) h i out past w

-- what stands in the order are readings
pub walls_below : (s : List ℕ) (at : Regions) (words : List ℕ) (reals : List Float) → WallsOrdered s at words reals → (i e : ℕ) → e ≤ length (readings_of (part_of s)) →
    (z : ℕ) → Memᴰ z (part i e (reading_order at words)) → z < length (readings_of (part_of s))
walls_below s at words reals o i e h z mem =
    group_below (part_of s) (face_from (part_of s)) (face_hit (part_of s)) (length (readings_of (part_of s))) (reading_keys at reals) (reading_order at words) o.sorted i e h z mem

-- ---- the least of some readings
pub least_none : (t : Part) (xs : List ℕ) (i : ℕ) → of_bits binary64 0x7ff0_0000_0000_0000 ≡ least_of t (part i i xs)
unfolding least_of least_from of_bits
least_none t xs i =
    let none : 0 ≡ i - i = omega arith in
    ap (λ (k : ℕ). least_of t (take k (drop i xs))) none

from_more : (t : Part) (x : Float) (l : List ℕ) (s : ℕ) → least_from t x (l ++ (s ∷ [])) ≡ min_of (least_from t x l) (reading (readings_of t) s).thickness
unfolding least_from
from_more t x [] s = refl
from_more t x (i ∷ l) s = from_more t (min_of x (reading (readings_of t) i).thickness) l s

part_more : (xs : List ℕ) (i j : ℕ) → i ≤ j → j < length xs → part i (j + 1) xs ≡ part i j xs ++ (get_or xs j 0 ∷ [])
part_more xs i j l h =
    let next : j + 1 - i ≡ suc (j - i) = omega (arith, l) in
    let here : i + (j - i) ≡ j = omega (arith, l) in
    ap (λ (k : ℕ). take k (drop i xs)) next ∙ take-suc (drop i xs) (j - i) 0 (omega (arith, length-drop i xs, l, h))
    ∙ ap (λ (z : ℕ). part i j xs ++ (z ∷ [])) (get_or-drop i xs (j - i) 0 ∙ ap (λ (k : ℕ). get_or xs k 0) here)

-- one reading more
pub least_more : (t : Part) (xs : List ℕ) (i j : ℕ) (x y r : Float) → i ≤ j → j < length xs → x ≡ least_of t (part i j xs) → y ≡ (reading (readings_of t) (get_or xs j 0)).thickness →
    r ≡ min_of x y → r ≡ least_of t (part i (j + 1) xs)
unfolding least_of
least_more t xs i j x y r l h ex ey er =
    er ∙ ap (λ (z : Float). min_of z y) ex ∙ ap (min_of (least_from t (inf false) (part i j xs))) ey
    ∙ sym (from_more t (inf false) (part i j xs) (get_or xs j 0)) ∙ ap (least_from t (inf false)) (sym (part_more xs i j l h))

pub least_end : (t : Part) (xs : List ℕ) (i j e : ℕ) (x : Float) → j ≤ e → e ≤ j → x ≡ least_of t (part i j xs) → x ≡ least_of t (part i e xs)
least_end t xs i j e x a b h =
    let same : j ≡ e = omega (arith, a, b) in
    h ∙ ap (λ (k : ℕ). least_of t (part i k xs)) same
