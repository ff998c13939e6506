-- The walk over the walls: the faults of those passed are put.
use mathlib.Core.Path.{◌≡◌, refl, sym, ap, ◌∙◌, subst}
use mathlib.Core.List.{List, [], ◌++◌}
use Prim.Native.Nat.{ℕ, ◌+◌, ◌≤◌, ◌<◌}
use native.Mathlib.Omega.{arith}
use lib.ListN.{length}
use lib.Ieee.{Float}
use Rattle.math.specs.declared.Vec3.{Vec3}
use Rattle.math.specs.Vector.{normalized_of}
use Rattle.list_laws.specs.Region.{part}
use Rattle.file_job.specs.declared.Job.{Job}
use Rattle.file_part.specs.Part.{Part, part_of}
use Rattle.solid_faces.proofs.BodyLaws.{checked_faces}
use Rattle.scratch.specs.declared.regions.Regions.{Regions}
use Rattle.scratch.proofs.StandingLaws.{placed_polygons}
use Rattle.wall_samples.specs.Samples.{readings_of}
use Rattle.wall_samples.proofs.ReadingLaws.{readings_most}
use Rattle.measure_sizes.specs.Reading.{ReadingBounds}
use Rattle.wall_pairs.specs.declared.NextWall.{NextWall}
use Rattle.wall_pairs.specs.Work.{reading_order, WallsOrdered, WallsTo, NextWallIs}
use Rattle.wall_pairs.proofs.WallLaws.{walls_start, next_wall, walls_end}
use Rattle.print_height.specs.Height.{up_of}
use Rattle.fault_row.specs.declared.flaw.Flaw.{Flaw}
use Rattle.fault_row.specs.Flaws.{FlawsPut}
use Rattle.fault_row.proofs.FlawLaws.{flaws_none, flaws_then, flaws_same}
use Rattle.fault_text.specs.Good.{Good}
use Rattle.print_walls.specs.Walls.{thinnest_of, wall_flaw, print_walls_of}
use Rattle.print_walls.specs.declared.Thinnest.{Thinnest}
use Rattle.print_walls.specs.Work.{flaw_by, WallPut}
use Rattle.print_walls.proofs.ThinnestLaws.{thinnest_bounds}

abbrev of_wall : Part → ℕ → ℕ → List ℕ → List Flaw
of_wall t f g l = wall_flaw t f g (thinnest_of t (up_of t) l)

-- at place i of the order the faults of the walls before are put
pub record WallsMet (t : Part) (i from : ℕ) (cells cells' : List ℕ) (numbers numbers' : List Float) (k : ℕ) : Type 0 where
  pub flaws : List Flaw
  pub met : WallsTo t (of_wall t) i flaws
  pub put : FlawsPut (Good t) from flaws cells cells' numbers numbers' k

pub met_none : (t : Part) (from : ℕ) (cells : List ℕ) (numbers : List Float) → WallsMet t 0 from cells cells numbers numbers from
met_none t from cells numbers = record { flaws = []; met = walls_start t (of_wall t); put = flaws_none from cells numbers }

-- in the words of `put_wall`
pub wall_room : (s : List ℕ) (at : Regions) (words : List ℕ) (reals : List Float) → WallsOrdered s at words reals → {i from k : ℕ} (faces : NextWall) → from ≤ 65536 → k ≤ from + i →
    NextWallIs (part_of s) at words reals i faces → (k < 4294967296) × ((faces.first < 4294967296) × (faces.second < 4294967296))
wall_room s at words reals o faces few most is =
    let laid = o.standing.placed.laid in
    let polygons = placed_polygons s at o.standing.placed in
    let small = checked_faces s o.standing.placed.checked in (
      omega (arith, few, most, is.run.more, is.run.inside, readings_most (part_of s), polygons, laid.few),
      (omega (arith, is.first_below, small), omega (arith, is.second_below, small)),
    )

up_is : (t : Part) (job : Job) (up : Vec3) → job ≡ t.job → up ≡ normalized_of job.print.up → up ≡ up_of t
unfolding up_of
up_is t job up same e = e ∙ ap (λ (j : Job). normalized_of j.print.up) same

by_both : (t : Part) (f g : ℕ) (e : Thinnest) → flaw_by e.stacked t f g e.thickness ≡ wall_flaw t f g e
unfolding flaw_by wall_flaw
by_both t f g e = refl

pub met_next : (s : List ℕ) (at : Regions) (words : List ℕ) (reals : List Float) → WallsOrdered s at words reals → {i from k r : ℕ} {c c' c'' : List ℕ} {n n' n'' : List Float}
    (faces : NextWall) (wall : Thinnest) (job : Job) (up : Vec3) → job ≡ (part_of s).job → up ≡ normalized_of job.print.up → NextWallIs (part_of s) at words reals i faces →
    wall ≡ thinnest_of (part_of s) up (part i faces.end (reading_order at words)) → WallsMet (part_of s) i from c c' n n' k →
    WallPut (flaw_by wall.stacked) job.print faces wall.thickness k c' c'' n' n'' r → WallsMet (part_of s) faces.end from c c'' n n'' r
met_next s at words reals o {i} faces wall job up same normal is e m p =
    let t = part_of s in
    let l = part i faces.end (reading_order at words) in
    let found : wall ≡ thinnest_of t (up_of t) l = e ∙ ap (λ (v : Vec3). thinnest_of t v l) (up_is t job up same normal) in
    let bounds : ReadingBounds wall.thickness =
    subst (λ (x : Thinnest). ReadingBounds x.thickness) (sym found) (thinnest_bounds s at words reals o (up_of t) i faces.end is.run.more is.run.inside) in
    record {
      flaws = m.flaws ++ of_wall t faces.first faces.second l;
      met = next_wall s at words reals o i faces is (of_wall t) m.flaws m.met;
      put =
          flaws_then m.put
          (flaws_same (by_both t faces.first faces.second wall ∙ ap (wall_flaw t faces.first faces.second) found)
          (p.put s o.standing.placed.checked (ap (λ (j : Job). j.print) same) is.first_below is.second_below bounds));
    }

pub met_all : (t : Part) {i from k : ℕ} {cells cells' : List ℕ} {numbers numbers' : List Float} → length (readings_of t) ≤ i → WallsMet t i from cells cells' numbers numbers' k →
    FlawsPut (Good t) from (print_walls_of t) cells cells' numbers numbers' k
unfolding print_walls_of
met_all t {i} past m = flaws_same (walls_end t (of_wall t) i m.flaws past m.met) m.put
