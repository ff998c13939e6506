-- The flaws of each process are such that the scratch tells the faces that are found from the part: every row is `Told` (report_faces).
use Rattle.std.specs.Prelude.{Option, Some, None}
use mathlib.Core.Path.{◌≡◌, refl, sym, ap, ◌∙◌, subst}
use mathlib.Core.Bool.{Bool, true, false, ◌&&◌, cond}
use mathlib.Core.List.{List, [], ◌∷◌, ◌++◌}
use mathlib.Core.Logic.{◌⊎◌, inl, inr}
use Prim.Native.Nat.{ℕ, zero, suc, ◌+◌, ◌-◌, ◌≤◌, ◌<◌}
use native.Mathlib.Omega.{arith}
use lib.Dec.{eqb}
use lib.ListN.{length, get_or, length-append, get_or-append}
use lib.Seq.{get_or-append-add}
use lib.Ieee.{Float, binary64, add, lt}
use Rattle.num_float.proofs.Tests.{lt_or_ge}
use Rattle.list_groups.specs.Groups.{joined, over_pairs, unless_empty}
use Rattle.file_part.specs.Part.{Part, part_of}
use Rattle.scratch.specs.declared.regions.Regions.{Regions}
use Rattle.solid_pairs.specs.Pairs.{over_face_pairs}
use Rattle.wall_ray.specs.Strike.{e_9}
use Rattle.round_all.specs.declared.round.Round.{Round}
use Rattle.round_all.specs.Round.{is_round, is_hole, round_of, rounds_of}
use Rattle.wall_pairs.specs.Walls.{over_walls}
use Rattle.measure_sizes.specs.Round.{diameter_of, ratio_of}
use Rattle.sheet_thickness.specs.Thickness.{thickness_of, is_uneven}
use Rattle.sheet_thickness.specs.Kept.{OffFaces}
use Rattle.print_overhang.specs.Overhang.{lean_of_word, overhang_count}
use Rattle.print_overhang.specs.Kept.{Marks}
use Rattle.fault_row.specs.declared.summary.Found.{Found}
use Rattle.fault_row.specs.declared.flaw.Flaw.{Flaw}
use Rattle.fault_row.specs.Row.{row_at_of, row_room}
use Rattle.fault_row.specs.Flaw.{row_of, flaw_of}
use Rattle.fault_row.specs.Flaws.{none, FlawsPut}
use Rattle.fault_row.proofs.FlawLaws.{flaw_of_row}
use Rattle.report.specs.fault_text.specs.Job.{min_wall_of}
use Rattle.report.specs.fault_text.specs.Machining.{min_drill, min_mill_radius}
use Rattle.report.specs.fault_text.specs.Printing.{two_layers}
use Rattle.report.specs.fault_text.specs.Good.{Good}
use Rattle.rule_machining.specs.rule_corners.specs.declared.corner.Corner.{Corner}
use Rattle.rule_machining.specs.rule_corners.specs.Corners.{over_corners}
use Rattle.rule_machining.specs.rule_corners.specs.Sharp.{is_reached, sharp_corner, sharp_corners}
use Rattle.rule_machining.specs.Machining as machine
use Rattle.rule_machining.specs.All.{machining, MachiningPut}
use Rattle.sheet_bends.specs.Bends.{is_bend, is_bend_face}
use Rattle.rule_sheet.specs.rule_flanges.specs.declared.legs.Leg.{Leg}
use Rattle.rule_sheet.specs.rule_flanges.specs.Flanges.{reach_of, min_flange, flange_flaw, flange_flaws, flanges_of, bend_flanges, short_flanges}
use Rattle.rule_sheet.specs.rule_holes.specs.declared.nearest.Gap.{Gap}
use Rattle.rule_sheet.specs.rule_holes.specs.Nearest.{nearest_of}
use Rattle.rule_sheet.specs.rule_holes.specs.Holes as hole
use Rattle.rule_printing.specs.print_walls.specs.declared.Thinnest.{Thinnest}
use Rattle.rule_printing.specs.print_walls.specs.Walls as wall
use Rattle.rule_sheet.specs.Material.{is_formed, material_flaws}
use Rattle.rule_sheet.specs.Tight.{min_radius, tight_bend, bend_tight, tight_bends}
use Rattle.rule_sheet.specs.All.{uneven_flaw, bent_flaws, is_measured, formed_flaws, sheet_metal, SheetPut}
use Rattle.rule_printing.specs.Closed as closed
use Rattle.rule_printing.specs.Rules as print
use Rattle.rule_printing.specs.All.{printing, PrintingPut}
use Rattle.report.specs.report_faces.specs.Named.{named_of, named_at}
use Rattle.report.specs.report_faces.specs.Work.{Told}

-- ---- every flaw of a list
record Each (P : Flaw → Type 0) (fs : List Flaw) : Type 0 where
  pub at : (k : ℕ) → k < length fs → P (get_or fs k none)

module _ {P : Flaw → Type 0} where
  each_none : Each P []
  each_none = record { at = λ k low. absurd (omega (arith, low)) }

  each_only : {f : Flaw} → P f → Each P (f ∷ [])
  each_only {f} p = record { at = λ k low. let here : 0 ≡ k = omega (arith, low) in subst (λ (i : ℕ). P (get_or (f ∷ []) i none)) here p }

  each_append : {fs gs : List Flaw} → Each P fs → Each P gs → Each P (fs ++ gs)
  each_append {fs} {gs} all others = record { at = λ k low. go k low (lt_or_ge k (length fs)) }
    where
      go : (k : ℕ) → k < length (fs ++ gs) → (k < length fs) ⊎ (length fs ≤ k) → P (get_or (fs ++ gs) k none)
      go k low (inl early) = subst P (sym (get_or-append fs gs none k early)) (all.at k early)
      go k low (inr late) =
          let back : length fs + (k - length fs) ≡ k = omega (arith, late) in
          subst P (sym (get_or-append-add fs gs (k - length fs) none) ∙ ap (λ (j : ℕ). get_or (fs ++ gs) j none) back)
          (others.at (k - length fs) (omega (arith, low, late, length-append fs gs)))

  each_cond : (b : Bool) {fs gs : List Flaw} → (b ≡ true → Each P fs) → Each P gs → Each P (cond b fs gs)
  each_cond true all others = all refl
  each_cond false all others = others

  each_if : (b : Bool) {fs : List Flaw} → Each P fs → Each P (cond b fs [])
  each_if b all = each_cond b (λ e. all) each_none

  -- ---- the ways to join lists
  each_joined : (h : ℕ → List Flaw) (n : ℕ) → ((k : ℕ) → Each P (h k)) → Each P (joined h n)
  unfolding joined
  each_joined h zero all = each_none
  each_joined h (suc n) all = each_append (each_joined h n all) (all n)

  each_unless : (l : List ℕ) {fs : List Flaw} → Each P fs → Each P (unless_empty l fs)
  unfolding unless_empty
  each_unless [] all = each_none
  each_unless (i ∷ l) all = all

  each_pair : (t : Part) (one other : ℕ → ℕ) (m : ℕ) (h : ℕ → ℕ → List ℕ → List Flaw) → ((f g : ℕ) (l : List ℕ) → Each P (h f g l)) →
      Each P (over_face_pairs t one other m h)
  unfolding over_face_pairs over_pairs
  each_pair t one other m h all = each_joined _ _ (λ a. each_joined _ _ (λ b. each_unless _ (all _ _ _)))

-- ---- what the scratch has to tell for a flaw: where it has many faces, what they are; else nothing
module _ (t : Part) (at : Regions) (words : List ℕ) where
  abbrev Tells : Flaw → Type 0
  Tells f = Told t at words (named_of f)

  -- ---- machining
  thin_wall : (f g : ℕ) (x : Float) → Each Tells (machine.wall_flaw t f g x)
  unfolding machine.wall_flaw Told named_of
  thin_wall f g x = each_if (lt x (min_wall_of t)) (each_only tt)

  thin_walls_lem : Each Tells (machine.thin_walls t)
  unfolding machine.thin_walls over_walls
  thin_walls_lem = each_pair t _ _ _ _ (λ f g l. thin_wall f g _)

  round_flaws_lem : (r : Round) → Each Tells (machine.round_flaws r)
  unfolding machine.round_flaws machine.hole_flaws machine.inside_flaws machine.small_holes machine.deep_holes machine.tight_radii machine.deep_corners Told named_of
  round_flaws_lem r =
      each_if r.concave
      (each_cond r.hole
      (λ e.
      each_append (each_if (lt (diameter_of r) min_drill) (each_only tt))
      (each_cond (lt machine.max_reach (ratio_of r)) (λ e. each_only tt) (each_if (lt machine.standard_reach (ratio_of r)) (each_only tt))))
      (each_append (each_if (lt r.radius min_mill_radius) (each_only tt)) (each_if (lt machine.standard_reach (ratio_of r)) (each_only tt))))

  rounds_flaws_lem : (rs : List Round) → Each Tells (machine.flaws_of_rounds rs)
  unfolding machine.flaws_of_rounds
  rounds_flaws_lem [] = each_none
  rounds_flaws_lem (r ∷ rs) = each_append (round_flaws_lem r) (rounds_flaws_lem rs)

  sharp_corner_lem : (f g : ℕ) (c : Corner) → Each Tells (sharp_corner t f g c)
  unfolding sharp_corner Told named_of
  sharp_corner_lem f g c = each_cond (is_reached t c) (λ e. each_none) (each_only tt)

  sharp_corners_lem : Each Tells (sharp_corners t)
  unfolding sharp_corners over_corners
  sharp_corners_lem = each_pair t _ _ _ _ (λ f g l. sharp_corner_lem f g _)

  machined : Each Tells (machining t)
  unfolding machining machine.rounds_flaws
  machined = each_append thin_walls_lem (each_append (rounds_flaws_lem (rounds_of t)) sharp_corners_lem)

  -- ---- sheet metal
  material_flaws_lem : Each Tells (material_flaws t.job)
  unfolding material_flaws Told named_of
  material_flaws_lem = each_cond t.job.has_material (λ e. each_cond (is_formed t.job) (λ e. each_none) (each_only tt)) (each_only tt)

  tight_bend_lem : (thick : Float) (f : ℕ) → Each Tells (bend_tight t thick f)
  unfolding bend_tight tight_bend Told named_of
  tight_bend_lem thick f = each_if (is_bend t thick f) (each_if (lt (add binary64 (round_of t f).radius e_9) (min_radius t thick)) (each_only tt))

  flange_flaw_lem : (thick : Float) (f : ℕ) (leg : Leg) → Each Tells (flange_flaw t thick f leg)
  unfolding flange_flaw Told named_of
  flange_flaw_lem thick f leg = each_if (lt (add binary64 (reach_of t leg) e_9) (min_flange thick)) (each_only tt)

  flange_flaws_lem : (thick : Float) (f : ℕ) (legs : List Leg) → Each Tells (flange_flaws t thick f legs)
  unfolding flange_flaws
  flange_flaws_lem thick f [] = each_none
  flange_flaws_lem thick f (leg ∷ legs) = each_append (flange_flaw_lem thick f leg) (flange_flaws_lem thick f legs)

  short_flanges_lem : (thick : Float) → Each Tells (short_flanges t thick)
  unfolding short_flanges bend_flanges
  short_flanges_lem thick = each_joined _ _ (λ f. each_if (is_bend t thick f) (flange_flaws_lem thick f (flanges_of t thick f)))

  small_hole_lem : (thick : Float) (f : ℕ) → Each Tells (hole.small_hole t thick f)
  unfolding hole.small_hole Told named_of
  small_hole_lem thick f = each_if (lt (add binary64 (diameter_of (round_of t f)) e_9) (hole.min_hole_of t thick)) (each_only tt)

  too_close_lem : (bend : Bool) (f g : ℕ) (gap need : Float) → Tells (hole.too_close bend f g gap need)
  unfolding hole.too_close Told named_of
  too_close_lem true f g gap need = tt
  too_close_lem false f g gap need = tt

  close_flaw_lem : (thick : Float) (f : ℕ) (n : Option Gap) → Each Tells (hole.close_flaw t thick f n)
  unfolding hole.close_flaw hole.gap_flaw
  close_flaw_lem thick f None = each_none
  close_flaw_lem thick f (Some n) =
      each_if (lt (add binary64 n.gap e_9) (hole.need_of t thick (is_bend_face t thick n.other))) (each_only (too_close_lem (is_bend_face t thick n.other) f n.other _ _))

  sheet_holes_lem : (thick : Float) → Each Tells (hole.sheet_holes t thick)
  unfolding hole.sheet_holes hole.hole_flaws
  sheet_holes_lem thick =
      each_joined _ _ (λ f. each_if (is_round t f && is_hole t f) (each_append (small_hole_lem thick f) (close_flaw_lem thick f (nearest_of t (round_of t f)))))

  bent_flaws_lem : (thick : Float) → Each Tells (bent_flaws t thick)
  unfolding bent_flaws tight_bends
  bent_flaws_lem thick = each_append (each_joined _ _ (tight_bend_lem thick)) (each_append (short_flanges_lem thick) (sheet_holes_lem thick))

  -- off faces are asked for only of a part that is formed, measured and not one thickness
  formed : (is_formed t.job ≡ true → is_measured t ≡ true → is_uneven t ≡ true → OffFaces t at words) → Each Tells (sheet_metal t)
  unfolding sheet_metal formed_flaws uneven_flaw Told named_of
  formed told =
      each_append material_flaws_lem
      (each_cond (is_formed t.job)
      (λ e. each_cond (is_measured t) (λ m. each_cond (is_uneven t) (λ u. each_only (told e m u)) (bent_flaws_lem (thickness_of t))) each_none) each_none)

  -- ---- printing
  not_closed_lem : Each Tells (closed.not_closed t)
  unfolding closed.not_closed Told named_of
  not_closed_lem = each_cond (eqb (closed.open_keys t) 0) (λ e. each_none) (each_only tt)

  floor_flaw_lem : (f g : ℕ) (x : Float) → Each Tells (wall.floor_flaw t f g x)
  unfolding wall.floor_flaw Told named_of
  floor_flaw_lem f g x =
      each_if (lt x (two_layers t.job.print.layer)) (each_cond (lt (add binary64 x e_9) t.job.print.layer) (λ e. each_only tt) (each_only tt))

  side_flaw_lem : (f g : ℕ) (x : Float) → Each Tells (wall.side_flaw t f g x)
  unfolding wall.side_flaw Told named_of
  side_flaw_lem f g x =
      each_cond (t.job.print.has_nozzle && lt (add binary64 x e_9) t.job.print.nozzle) (λ e. each_only tt)
      (each_if (lt (add binary64 x e_9) t.job.print.min_wall) (each_only tt))

  print_wall : (f g : ℕ) (e : Thinnest) → Each Tells (wall.wall_flaw t f g e)
  unfolding wall.wall_flaw
  print_wall f g e = each_cond e.stacked (λ u. floor_flaw_lem f g e.thickness) (side_flaw_lem f g e.thickness)

  print_walls : Each Tells (wall.print_walls_of t)
  unfolding wall.print_walls_of over_walls
  print_walls = each_pair t _ _ _ _ (λ f g l. print_wall f g _)

  print_hole : (f : ℕ) → Each Tells (print.small_hole t f)
  unfolding print.small_hole Told named_of
  print_hole f = each_if (is_round t f && is_hole t f) (each_if (lt (add binary64 (diameter_of (round_of t f)) e_9) t.job.print.min_hole) (each_only tt))

  overhangs_flaw : (t.job.print.has_overhang ≡ true → Marks t (lean_of_word t) at words) → Each Tells (print.overhangs t)
  unfolding print.overhangs Told named_of
  overhangs_flaw told =
      each_cond t.job.print.has_overhang (λ e. each_cond (eqb (overhang_count t (lean_of_word t)) 0) (λ u. each_none) (each_only (told e))) each_none

  hollow_flaw_lem : (sls : Bool) (b : ℕ) → at.bodies ≡ true → Tells (print.hollow_flaw t sls b)
  unfolding print.hollow_flaw Told named_of
  hollow_flaw_lem true b told = told
  hollow_flaw_lem false b told = told

  hollow_flaws : at.bodies ≡ true → Each Tells (print.hollows t)
  unfolding print.hollows
  hollow_flaws told = each_joined _ _ (λ b. each_if (print.is_hollow t b) (each_only (hollow_flaw_lem (print.is_sls t.job.process) b told)))

  printed : (t.job.print.has_overhang ≡ true → Marks t (lean_of_word t) at words) → (print.traps_hollows_of t.job.process ≡ true → at.bodies ≡ true) → Each Tells (printing t)
  unfolding printing print.print_holes
  printed hangs traps =
      each_append not_closed_lem
      (each_append print_walls
      (each_append (each_joined _ _ print_hole)
      (each_append (overhangs_flaw hangs) (each_cond (print.traps_hollows_of t.job.process) (λ e. hollow_flaws (traps e)) each_none))))

  -- ---- from flaws to rows
  rows_told : {fs : List Flaw} {cells cells' : List ℕ} {numbers numbers' : List Float} {r : ℕ} → FlawsPut (Good t) 0 fs cells cells' numbers numbers' r → Each Tells fs →
      (k : ℕ) → k < r → k < row_room (length cells) (length numbers) → Told t at words (named_at cells' numbers' k)
  unfolding named_at
  rows_told {fs} {cells} {cells'} {numbers} {numbers'} put each k low room =
      let below : k < length fs = omega (arith, low, put.count) in
      let same : k ≡ 0 + k = omega arith in
      let row : row_at_of cells' numbers' k ≡ row_of (get_or fs k none) = ap (row_at_of cells' numbers') same ∙ put.each k below (omega (arith, room)) in
      subst Tells (sym (ap flaw_of row ∙ flaw_of_row (get_or fs k none))) (each.at k below)

-- ---- each process
module _ {s : List ℕ} {at : Regions} {words words' : List ℕ} {reals reals' : List Float} {cells cells' : List ℕ} {numbers numbers' : List Float} where
  pub told_machined : {r : ℕ} → MachiningPut s at words words' reals reals' cells cells' numbers numbers' r →
      (k : ℕ) → k < r → k < row_room (length cells) (length numbers) → Told (part_of s) at words' (named_at cells' numbers' k)
  told_machined found k low room = rows_told (part_of s) at words' found.put (machined (part_of s) at words') k low room

  pub told_sheet : {r : Found} → SheetPut s at words words' reals reals' cells cells' numbers numbers' r →
      (k : ℕ) → k < r.faults → k < row_room (length cells) (length numbers) → Told (part_of s) at words' (named_at cells' numbers' k)
  told_sheet found k low room = rows_told (part_of s) at words' found.put (formed (part_of s) at words' found.marks) k low room

  pub told_print : {r : Found} → at.bodies ≡ print.traps_hollows_of (part_of s).job.process →
      PrintingPut s at words words' reals reals' cells cells' numbers numbers' r →
      (k : ℕ) → k < r.faults → k < row_room (length cells) (length numbers) → Told (part_of s) at words' (named_at cells' numbers' k)
  told_print bodies found k low room =
      rows_told (part_of s) at words' found.put (printed (part_of s) at words' found.marks (λ e. bodies ∙ e)) k low room
