-- The thin walls: the least of some readings, one wall, and the walk over the walls.
use mathlib.Core.Path.{◌≡◌, refl, sym, ap, ◌∙◌, subst}
use mathlib.Core.Bool.{true, false, cond}
use mathlib.Core.Logic.{◌⊎◌, inl, inr}
use mathlib.Core.List.{List, [], ◌∷◌, ◌++◌, Memᴰ}
use Prim.Native.Nat.{ℕ, ◌+◌, ◌≤◌, ◌<◌, ◌^◌}
use native.Mathlib.Omega.{arith}
use lib.Dec.{T, lit<}
use lib.ListN.{length}
use lib.Ieee.{Float, fin, inf, nan, binary64, mul, lt, is_nan}
use lib.Ieee.Scale.{finite}
use Rattle.num_float.specs.Sign.{NonNeg}
use Rattle.num_float.specs.Within.{Within}
use Rattle.num_real.specs.Select.{min_of}
use Rattle.num_real.proofs.SelectLaws.{min_either}
use Rattle.num_text.specs.Decimal.{accepted}
use Rattle.num_text.proofs.NeverRefused.{accepted_at}
use Rattle.list_laws.specs.Region.{part}
use Rattle.list_laws.proofs.Regions.{part_length}
use Rattle.file_part.specs.Part.{Part, part_of}
use Rattle.solid_polygon.specs.Polygon.{half}
use Rattle.solid_faces.proofs.BodyLaws.{checked_faces}
use Rattle.scratch.specs.declared.regions.Regions.{Regions}
use Rattle.scratch.proofs.StandingLaws.{placed_polygons}
use Rattle.wall_samples.specs.Samples.{readings_of}
use Rattle.wall_samples.specs.Stored.{reading}
use Rattle.wall_samples.proofs.ReadingLaws.{readings_most}
use Rattle.wall_pairs.specs.declared.NextWall.{NextWall}
use Rattle.wall_pairs.specs.Walls.{least_from, least_of}
use Rattle.wall_pairs.specs.Work.{reading_order, WallsOrdered, WallsTo, NextWallIs}
use Rattle.wall_pairs.proofs.WallLaws.{walls_start, next_wall, walls_end, walls_below}
use Rattle.measure_sizes.proofs.Readings.{reading_bounds}
use Rattle.fault_row.specs.declared.fault.Severity.{Severity}
use Rattle.fault_row.specs.declared.fault.Severity.TheVariants.{Error, Warning}
use Rattle.fault_row.specs.declared.flaw.Flaw.{Flaw}
use Rattle.fault_row.specs.declared.flaw.Flaw.TheVariants.{ThinWall}
use Rattle.fault_row.specs.Row.{RowPut}
use Rattle.fault_row.specs.Flaw.{row_of}
use Rattle.fault_row.specs.Flaws.{FlawsPut}
use Rattle.fault_row.proofs.FlawLaws.{flaws_none, flaws_one, flaws_then, flaws_same}
use Rattle.rule_corners.specs.fault_text.specs.Job.{min_wall_of}
use Rattle.rule_corners.specs.fault_text.specs.Good.{Good}
use Rattle.rule_corners.specs.fault_text.proofs.JobLaws.{min_wall_accepted}
use Rattle.rule_machining.specs.Machining.{wall_severity, wall_flaw, thin_walls}
use Rattle.rule_machining.specs.Work.{WallPut}

-- ---- the least of some readings is a number that is printed
record Thickness (x : Float) : Type 0 where
  nonneg : NonNeg x
  within : Within x (2 ^ 17)

min_infinity : (y : Float) → T (finite y) → min_of (inf false) y ≡ y
unfolding min_of is_nan lt
min_infinity (fin s m e) h = refl
min_infinity (inf s) h = absurd h
min_infinity nan h = absurd h

min_thickness : (x y : Float) → Thickness x → Thickness y → Thickness (min_of x y)
min_thickness x y a b = go (min_either x y)
  where
    go : (min_of x y ≡ x) ⊎ (min_of x y ≡ y) → Thickness (min_of x y)
    go (inl e) = subst Thickness (sym e) a
    go (inr e) = subst Thickness (sym e) b

least_from_lem : (t : Part) (x : Float) (l : List ℕ) → Thickness x → ((z : ℕ) → Memᴰ z l → Thickness (reading (readings_of t) z).thickness) → Thickness (least_from t x l)
unfolding least_from
least_from_lem t x [] a each = a
least_from_lem t x (s ∷ l) a each = least_from_lem t (min_of x (reading (readings_of t) s).thickness) l (min_thickness x _ a (each s (Memᴰ.head refl))) (λ z m. each z (Memᴰ.tail m))

least_thickness : (t : Part) (l : List ℕ) → 0 < length l → ((z : ℕ) → Memᴰ z l → Thickness (reading (readings_of t) z).thickness) → Thickness (least_of t l)
unfolding least_of least_from
least_thickness t [] h each = absurd (omega (arith, h))
least_thickness t (s ∷ l) h each =
    let first : Thickness (reading (readings_of t) s).thickness = each s (Memᴰ.head refl) in
    least_from_lem t (min_of (inf false) (reading (readings_of t) s).thickness) l
    (subst Thickness (sym (min_infinity (reading (readings_of t) s).thickness first.within.is_finite)) first) (λ z m. each z (Memᴰ.tail m))

pub least_accepted : (s : List ℕ) (at : Regions) (words : List ℕ) (reals : List Float) → WallsOrdered s at words reals → (i e : ℕ) → i < e → e ≤ length (readings_of (part_of s)) →
    accepted (least_of (part_of s) (part i e (reading_order at words))) 2 ≡ true
least_accepted s at words reals o i e more to =
    let inside = o.sorted.grouped.inside in
    let t = part_of s in
    let l = part i e (reading_order at words) in
    let each : (z : ℕ) → Memᴰ z l → Thickness (reading (readings_of t) z).thickness =
    λ z m. (
    let b = reading_bounds s o.standing.placed.checked z (walls_below s at words reals o i e to z m) in
    record { nonneg = b.nonneg; within = b.within }
    ) in
    let x = least_thickness t l (omega (arith, part_length i e (reading_order at words) (omega (arith, to, inside)), more)) each in
    accepted_at (least_of t l) (2 ^ 17) 2 x.nonneg x.within (lit< tt) (omega arith)

-- ---- one wall
severity_is : (t : Part) (x wall : Float) (v : Severity) → v ≡ cond (lt x (mul binary64 half wall)) Error Warning → min_wall_of t ≡ wall → v ≡ wall_severity t x
unfolding wall_severity
severity_is t x wall v e w = e ∙ ap (λ (y : Float). cond (lt x (mul binary64 half y)) Error Warning) (sym w)

pub thin_wall_none : {faces : NextWall} {x wall : Float} {from : ℕ} {cells : List ℕ} {numbers : List Float} → lt x wall ≡ false → WallPut faces x wall from cells cells numbers numbers from
unfolding wall_flaw
thin_wall_none {faces} {x} {wall} {from} {cells} {numbers} e =
    record { few = omega arith; put = λ t w a b p q. flaws_same (sym (rw (w, e) refl)) (flaws_none from cells numbers) }

pub thin_wall_one : {faces : NextWall} {x wall : Float} {v : Severity} {from r : ℕ} {cells cells' : List ℕ} {numbers numbers' : List Float} → lt x wall ≡ true →
    v ≡ cond (lt x (mul binary64 half wall)) Error Warning → RowPut from (row_of (ThinWall v faces.first faces.second x)) cells cells' numbers numbers' r →
    WallPut faces x wall from cells cells' numbers numbers' r
unfolding wall_flaw Good
thin_wall_one {faces} {x} {wall} {v} {from} {r} {cells} {cells'} {numbers} {numbers'} e s p =
    record {
      few = omega (arith, p.count);
      put = λ t w a b ok kept.
          flaws_same (sym (rw (w, e) refl))
          (flaws_one (ThinWall (wall_severity t x) faces.first faces.second x)
          (subst (λ (q : Severity). RowPut from (row_of (ThinWall q faces.first faces.second x)) cells cells' numbers numbers' r) (severity_is t x wall v s w) p)
          (a, b, ok, ap (λ (y : Float). accepted y 2) w ∙ kept));
    }

-- ---- the walk
abbrev of_wall : Part → ℕ → ℕ → List ℕ → List Flaw
of_wall t f g l = wall_flaw t f g (least_of t l)

-- at place i of the order the faults of the walls before are put
pub record WallsMet (t : Part) (i from : ℕ) (cells cells' : List ℕ) (numbers numbers' : List Float) (k : ℕ) : Type 0 where
  pub flaws : List Flaw
  pub met : WallsTo t (of_wall t) i flaws
  pub put : FlawsPut (Good t) from flaws cells cells' numbers numbers' k

pub met_none : (t : Part) (from : ℕ) (cells : List ℕ) (numbers : List Float) → WallsMet t 0 from cells cells numbers numbers from
met_none t from cells numbers = record { flaws = []; met = walls_start t (of_wall t); put = flaws_none from cells numbers }

-- in the words of `put_thin_wall`
pub wall_room : (s : List ℕ) (at : Regions) (words : List ℕ) (reals : List Float) → WallsOrdered s at words reals → {i from k : ℕ} (faces : NextWall) → from ≤ 65536 → k ≤ from + i →
    NextWallIs (part_of s) at words reals i faces → (k < 4294967296) × ((faces.first < 4294967296) × (faces.second < 4294967296))
wall_room s at words reals o faces few most is =
    let laid = o.standing.placed.laid in
    let polygons = placed_polygons s at o.standing.placed in
    let small = checked_faces s o.standing.placed.checked in (
      omega (arith, few, most, is.run.more, is.run.inside, readings_most (part_of s), polygons, laid.few),
      (omega (arith, is.first_below, small), omega (arith, is.second_below, small)),
    )

pub met_next : (s : List ℕ) (at : Regions) (words : List ℕ) (reals : List Float) → WallsOrdered s at words reals → {i from k r : ℕ} {c c' c'' : List ℕ} {n n' n'' : List Float}
    (faces : NextWall) (x wall : Float) → wall ≡ min_wall_of (part_of s) → NextWallIs (part_of s) at words reals i faces →
    x ≡ least_of (part_of s) (part i faces.end (reading_order at words)) → WallsMet (part_of s) i from c c' n n' k → WallPut faces x wall k c' c'' n' n'' r →
    WallsMet (part_of s) faces.end from c c'' n n'' r
met_next s at words reals o {i} faces x wall w is e m p =
    let t = part_of s in
    let ok : accepted x 2 ≡ true = ap (λ (y : Float). accepted y 2) e ∙ least_accepted s at words reals o i faces.end is.run.more is.run.inside in
    let kept : accepted wall 2 ≡ true = ap (λ (y : Float). accepted y 2) w ∙ min_wall_accepted s o.standing.placed.checked in
    record {
      flaws = m.flaws ++ of_wall t faces.first faces.second (part i faces.end (reading_order at words));
      met = next_wall s at words reals o i faces is (of_wall t) m.flaws m.met;
      put =
          flaws_then m.put
          (flaws_same (ap (wall_flaw t faces.first faces.second) e) (p.put t (sym w) is.first_below is.second_below ok kept));
    }

pub met_all : (t : Part) {i from k : ℕ} {cells cells' : List ℕ} {numbers numbers' : List Float} → length (readings_of t) ≤ i → WallsMet t i from cells cells' numbers numbers' k →
    FlawsPut (Good t) from (thin_walls t) cells cells' numbers numbers' k
unfolding thin_walls
met_all t {i} past m = flaws_same (walls_end t (of_wall t) i m.flaws past m.met) m.put
