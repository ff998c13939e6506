-- The rules of dfm.rs's `printing` but for the walls: `Small hole`, `Overhang`, `Enclosed hollow`. Definitions only.
use Rattle.std.specs.Prelude.{Bool, true, false, ◌&&◌, cond, List, [], ◌∷◌, ℕ, eqb}
use Rattle.std.specs.Float.{binary64}
use Rattle.std.specs.Float.Ieee.{add, neg, lt}
use Rattle.list_groups.specs.Groups.{joined}
use Rattle.file_job.specs.declared.Process.{Process}
use Rattle.file_job.specs.declared.Process.TheVariants.{CncMachining, SheetMetal, Fdm, Sla, Sls}
use Rattle.file_part.specs.Part.{Part}
use Rattle.solid_faces.specs.Faces.{faces_of}
use Rattle.solid_volumes.specs.Volume.{volume_of}
use Rattle.wall_ray.specs.Strike.{e_9}
use Rattle.round_all.specs.Round.{is_round, is_hole, round_of}
use Rattle.measure_sizes.specs.Round.{diameter_of}
use Rattle.print_overhang.specs.Overhang.{lean_of_word, overhang_count, overhang_area}
use Rattle.fault_row.specs.declared.flaw.Flaw.{Flaw}
use Rattle.fault_row.specs.declared.flaw.Flaw.TheVariants.{PrintSmallHole, Overhang, EnclosedHollowSla, EnclosedHollowSls}

-- ---- `Small hole`: `if d + 1e-9 < print.min_hole`, of face f where it is a hole
unfoldable pub small_hole : Part → ℕ → List Flaw
small_hole t f =
    cond (is_round t f && is_hole t f)
    (cond (lt (add binary64 (diameter_of (round_of t f)) e_9) t.job.print.min_hole) (PrintSmallHole f (diameter_of (round_of t f)) ∷ []) []) []

-- `for h in &holes`
unfoldable pub print_holes : Part → List Flaw
print_holes t = joined (small_hole t) (faces_of t)

-- ---- `Overhang`: `if let Some(limit) = print.overhang`, `if !faces.is_empty()`: one fault of all faces, which `told` finds
unfoldable pub overhangs : Part → List Flaw
overhangs t =
    cond t.job.print.has_overhang
    (cond (eqb (overhang_count t (lean_of_word t)) 0) [] (Overhang (overhang_count t (lean_of_word t)) (overhang_area t (lean_of_word t)) ∷ [])) []

-- ---- `Enclosed hollow`: "a hollow volume −1e-9: not one"
-- `*v < -1e-9`, of the body whose lowest polygon is b; of a polygon that is no body's lowest the volume is 0.0
unfoldable pub is_hollow : Part → ℕ → Bool
is_hollow t b = lt (volume_of t b) (neg e_9)

unfoldable pub is_sls : Process → Bool
is_sls CncMachining = false
is_sls SheetMetal = false
is_sls Fdm = false
is_sls Sla = false
is_sls Sls = true

-- "in a resin or powder bed they trap what the part is made from": for SLS an Error, else a Warning
unfoldable pub hollow_flaw : Part → Bool → ℕ → Flaw
hollow_flaw t sls b = cond sls (EnclosedHollowSls b (neg (volume_of t b))) (EnclosedHollowSla b (neg (volume_of t b)))

-- in the order of their lowest polygon
unfoldable pub hollows : Part → List Flaw
hollows t = joined (λ b. cond (is_hollow t b) (hollow_flaw t (is_sls t.job.process) b ∷ []) []) t.polygons

-- `matches!(process, Process::Sla | Process::Sls)`
unfoldable pub traps_hollows_of : Process → Bool
traps_hollows_of CncMachining = false
traps_hollows_of SheetMetal = false
traps_hollows_of Fdm = false
traps_hollows_of Sla = true
traps_hollows_of Sls = true
