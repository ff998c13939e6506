-- One rule after the other: what each leaves for the next, and all of them together.
use mathlib.Core.Path.{◌≡◌, refl, sym, ap, ap₂, ◌∙◌, subst}
use mathlib.Core.Bool.{Bool, true, false, not, cond, true≢false}
use mathlib.Core.List.{List, [], ◌∷◌}
use Prim.Native.Nat.{ℕ, ◌+◌, ◌≤◌, ◌<◌}
use native.Mathlib.Omega.{arith}
use borrow.Author.Tests.{not-true, not-false}
use lib.Dec.{eqb}
use lib.ListN.{length}
use lib.Ieee.{Float, binary64, sub, nan}
use Rattle.math.specs.declared.Vec3.{Vec3}
use Rattle.math.specs.Vector.{normalized_of}
use Rattle.list_laws.specs.Region.{Outside}
use Rattle.list_laws.proofs.Outside.{outside_none, outside_then, outside_wide}
use Rattle.file_job.specs.declared.Job.{Job}
use Rattle.file_part.specs.Part.{Part, part_of}
use Rattle.solid_faces.specs.Faces.{faces_of}
use Rattle.scratch.specs.declared.regions.Regions.{Regions}
use Rattle.scratch.specs.Regions.{Laid}
use Rattle.scratch.specs.Standing.{Standing}
use Rattle.scratch.proofs.StandingLaws.{placed_polygons}
use Rattle.solid_ranks.specs.Kept.{Ranked, RanksPut}
use Rattle.solid_ranks.proofs.KeptLaws.{sorts_only, only_standing, ranked_kept}
use Rattle.wall_samples.specs.Samples.{readings_of}
use Rattle.wall_samples.proofs.ReadingLaws.{readings_most}
use Rattle.wall_pairs.specs.Work.{WallsPut}
use Rattle.round_frame.specs.declared.extent.Extent.{Extent}
use Rattle.print_height.specs.Height.{up_of, heights_to, heights_of, height_of}
use Rattle.print_walls.specs.Walls.{print_walls_of}
use Rattle.print_overhang.specs.declared.Lean.{Lean}
use Rattle.print_overhang.specs.declared.Overhang.{Overhang}
use Rattle.print_overhang.specs.Overhang.{lean_of_word, overhang_count, overhang_area}
use Rattle.print_overhang.specs.Kept.{Marks, OverhangsPut}
use Rattle.print_overhang.proofs.SizeLaws.{overhang_few}
use Rattle.fault_row.specs.declared.summary.Summary.{Summary}
use Rattle.fault_row.specs.declared.flaw.Flaw.TheVariants as flaw
use Rattle.fault_row.specs.Flaws.{FlawsPut}
use Rattle.fault_row.specs.Summary.{print_summary}
use Rattle.fault_row.proofs.FlawLaws.{flaws_none, flaws_then, flaws_same}
use Rattle.print_walls.specs.fault_text.specs.Good.{Good}
use Rattle.rule_printing.specs.declared.printing.Upright.{Upright}
use Rattle.rule_printing.specs.Closed.{not_closed}
use Rattle.rule_printing.specs.Rules.{print_holes, overhangs, hollows, traps_hollows_of}
use Rattle.rule_printing.specs.All.{printing, summary_of, PrintingPut}
use Rattle.rule_printing.specs.Work.{HeightsAre, OverhangPut, UprightIs, Ready, RulePut}

-- ---- the build direction and the heights
module _ (t : Part) (job : Job) (up : Vec3) (ej : job ≡ t.job) (eu : up ≡ normalized_of job.print.up) where
  up_same : up ≡ up_of t
  unfolding up_of
  up_same = eu ∙ ap (λ (j : Job). normalized_of j.print.up) ej

  heights_same : (heights : Extent) → heights ≡ heights_to t up t.vertices → heights ≡ heights_of t
  unfolding heights_of
  heights_same heights e = e ∙ ap (λ (v : Vec3). heights_to t v t.vertices) up_same

  pub upright_is : (heights : Extent) → heights ≡ heights_to t up t.vertices → UprightIs t (record { up = up; heights = heights })
  upright_is heights e = record { up_is = up_same; heights_are = heights_same heights e }

-- ---- the walls: ranks, readings, the sort
module _ (s : List ℕ) (at : Regions) (w0 w1 w2 : List ℕ) (r0 r1 r2 : List Float) (h : Standing s at w0 r0) (ranks : RanksPut s at w0 w1 r0 r1)
    (words : Outside 0 at.readings at.kinds w1 w2) (reals : Outside nan at.falling at.rounds r1 r2) where
  abbrev laid : Laid at
  laid = h.placed.laid

  -- the ranks are past what changes
  pub ranked_still : Ranked (part_of s) at w2
  ranked_still = ranked_kept (part_of s) at w1 w2 (λ f l. words.above (at.ranks + f) (omega (arith, laid))) ranks.ranked

  module _ (w3 : List ℕ) (r3 : List Float) (walls : WallsPut s at w2 w3 r2 r3) where
    pub walls_words : Outside 0 at.items at.words w0 w3
    walls_words =
        outside_then 0 _ _ w0 w1 w3
        (outside_wide 0 at.order at.words _ _ w0 w1 (omega (arith, laid)) (omega arith) (record { below = ranks.only.before; above = ranks.only.past; long = ranks.only.long }))
        (outside_then 0 _ _ w1 w2 w3 (outside_wide 0 _ _ _ _ w1 w2 (omega (arith, laid)) (omega (arith, laid)) words)
        (outside_wide 0 _ _ _ _ w2 w3 (omega (arith, laid)) (omega (arith, laid)) walls.words_kept))

    pub walls_reals : Outside nan at.falling at.free r0 r3
    walls_reals =
        outside_then nan _ _ r0 r1 r3 (outside_wide nan _ _ _ _ r0 r1 (omega arith) (omega (arith, laid)) ranks.only.keys)
        (outside_then nan _ _ r1 r2 r3 (outside_wide nan _ _ _ _ r1 r2 (omega arith) (omega (arith, laid)) reals)
        (outside_wide nan _ _ _ _ r2 r3 (omega arith) (omega (arith, laid)) walls.reals_kept))

    pub walls_found : {from k : ℕ} {cells cells' : List ℕ} {numbers numbers' : List Float} →
        FlawsPut (Good (part_of s)) from (print_walls_of (part_of s)) cells cells' numbers numbers' k → k ≤ from + length (readings_of (part_of s)) →
        RulePut print_walls_of 4096 s at from w0 w3 r0 r3 cells cells' numbers numbers' k
    walls_found put most =
        record {
          ready = record { standing = walls.ordered.standing; ranked = walls.ordered.ranked };
          put = put;
          few = omega (arith, most, readings_most (part_of s), placed_polygons s at h.placed, laid);
          words_kept = walls_words;
          reals_kept = walls_reals;
        }

-- ---- the rounds
pub holes_found : (s : List ℕ) (at : Regions) {w w' : List ℕ} {r r' : List Float} → Ready s at w r → Standing s at w' r' → Outside 0 at.kinds at.ranks w w' →
    Outside nan at.rounds at.free r r' → {from k : ℕ} {cells cells' : List ℕ} {numbers numbers' : List Float} →
    FlawsPut (Good (part_of s)) from (print_holes (part_of s)) cells cells' numbers numbers' k → k ≤ from + 1024 →
    RulePut print_holes 1024 s at from w w' r r' cells cells' numbers numbers' k
holes_found s at {w} {w'} {r} {r'} h standing words reals put few =
    let laid = h.standing.placed.laid in
    record {
      ready = record { standing = standing; ranked = ranked_kept (part_of s) at w w' (λ f l. words.above (at.ranks + f) (omega arith)) h.ranked };
      put = put;
      few = few;
      words_kept = outside_wide 0 _ _ _ _ w w' (omega (arith, laid)) (omega (arith, laid)) words;
      reals_kept = outside_wide nan _ _ _ _ r r' (omega (arith, laid)) (omega arith) reals;
    }

-- ---- what hangs over
abbrev Limited : Part → Bool
Limited t = t.job.print.has_overhang

over_is : (t : Part) (count : ℕ) (area : Float) → Limited t ≡ true → count ≡ overhang_count t (lean_of_word t) → area ≡ overhang_area t (lean_of_word t) →
    cond (eqb count 0) [] (flaw.Overhang count area ∷ []) ≡ overhangs t
unfolding overhangs
over_is t count area on ec ea =
    ap₂ (λ (k : ℕ) (x : Float). cond (eqb k 0) [] (flaw.Overhang k x ∷ [])) ec ea
    ∙ sym (ap (λ (b : Bool). cond b
    (cond (eqb (overhang_count t (lean_of_word t)) 0) [] (flaw.Overhang (overhang_count t (lean_of_word t)) (overhang_area t (lean_of_word t)) ∷ [])) []) on)

module _ (s : List ℕ) (at : Regions) {w : List ℕ} {r : List Float} (h : Ready s at w r) (job : Job) (is : job ≡ (part_of s).job) where
  abbrev t : Part
  t = part_of s

  limited : (b : Bool) → job.print.has_overhang ≡ b → Limited t ≡ b
  limited b e = sym (ap (λ (j : Job). j.print.has_overhang) is) ∙ e

  -- no limit
  pub overhang_quiet : {from : ℕ} {cells : List ℕ} {numbers : List Float} → not job.print.has_overhang ≡ true →
      RulePut overhangs 1 s at from w w r r cells cells numbers numbers from × (Limited t ≡ true → Marks t (lean_of_word t) at w)
  overhang_quiet {from} {cells} {numbers} e =
      let off = limited false (not-true job.print.has_overhang e) in
      let none : [] ≡ overhangs t = unfold overhangs in rw off refl in (
        record {
          ready = h;
          put = flaws_same none (flaws_none from cells numbers);
          few = omega arith;
          words_kept = outside_none 0 at.items at.words w;
          reals_kept = outside_none nan at.falling at.free r;
        },
        λ on. absurd (true≢false (sym on ∙ off)),
      )

  pub heights_there : {upright : Upright} → UprightIs t upright → HeightsAre t upright.up upright.heights job.print.overhang
  heights_there u = record { up_is = u.up_is; heights_are = u.heights_are; limit_is = ap (λ (j : Job). j.print.overhang) is }

  module _ {w' : List ℕ} {r' : List Float} (lean : Lean) (leans : lean ≡ lean_of_word t) (found : Overhang) (over : OverhangsPut t lean at w w' r r' found) where
    there : OverhangsPut t (lean_of_word t) at w w' r r' found
    there = subst (λ (l : Lean). OverhangsPut t l at w w' r r' found) leans over

    pub count_fits : found.count < 4294967296
    count_fits = omega (arith, there.count, overhang_few s h.standing.placed.checked (lean_of_word t))

    abbrev laid_at : Laid at
    laid_at = h.standing.placed.laid

    pub over_words : Outside 0 at.items at.words w w'
    over_words = outside_wide 0 _ _ _ _ w w' (omega (arith, laid_at)) (omega (arith, laid_at)) over.words_kept

    pub over_reals : Outside nan at.falling at.free r r'
    over_reals = outside_wide nan _ _ _ _ r r' (omega arith) (omega (arith, laid_at)) over.reals_kept

    over_flaws : {from k : ℕ} {cells cells' : List ℕ} {numbers numbers' : List Float} → 0 < faces_of t → OverhangPut found from cells cells' numbers numbers' k →
        FlawsPut (Good t) from (cond (eqb found.count 0) [] (flaw.Overhang found.count found.area ∷ [])) cells cells' numbers numbers' k
    over_flaws some p = p.put s h.standing.placed.checked there.count there.area some

    pub over_cells : {from k : ℕ} {cells cells' : List ℕ} {numbers numbers' : List Float} → 0 < faces_of t → OverhangPut found from cells cells' numbers numbers' k → length cells' ≡ length cells
    over_cells some p = (over_flaws some p).cells_kept.long

    pub over_numbers : {from k : ℕ} {cells cells' : List ℕ} {numbers numbers' : List Float} → 0 < faces_of t → OverhangPut found from cells cells' numbers numbers' k →
        length numbers' ≡ length numbers
    over_numbers some p = (over_flaws some p).numbers_kept.long

    pub overhang_found : {from k : ℕ} {cells cells' : List ℕ} {numbers numbers' : List Float} → not job.print.has_overhang ≡ false → 0 < faces_of t →
        OverhangPut found from cells cells' numbers numbers' k →
        RulePut overhangs 1 s at from w w' r r' cells cells' numbers numbers' k × (Limited t ≡ true → Marks t (lean_of_word t) at w')
    overhang_found e some p =
        let on = limited true (not-false job.print.has_overhang e) in (
          record {
            ready = record {
              standing = only_standing s at w w' r r' (sorts_only at w w' r r' laid_at over.words_kept over.reals_kept) h.standing;
              ranked = ranked_kept (part_of s) at w w' (λ f l. over.words_kept.above (at.ranks + f) (omega (arith, laid_at))) h.ranked;
            };
            put = flaws_same (over_is t found.count found.area on there.count there.area) (over_flaws some p);
            few = p.few;
            words_kept = over_words;
            reals_kept = over_reals;
          },
          λ yes. there.marks,
        )

-- ---- the hollows
module _ (t : Part) (job : Job) (is : job ≡ t.job) (traps : Bool) (et : traps ≡ traps_hollows_of job.process) where
  trap : (b : Bool) → traps ≡ b → cond b (hollows t) [] ≡ cond (traps_hollows_of t.job.process) (hollows t) []
  trap b e = ap (λ (c : Bool). cond c (hollows t) []) (sym e ∙ et ∙ ap (λ (j : Job). traps_hollows_of j.process) is)

  -- the bodies are asked for
  pub traps_is : not traps ≡ false → traps_hollows_of t.job.process ≡ true
  traps_is e = sym (ap (λ (j : Job). traps_hollows_of j.process) is) ∙ sym et ∙ not-false traps e

  pub hollows_quiet : {from : ℕ} {cells : List ℕ} {numbers : List Float} → not traps ≡ true →
      FlawsPut (Good t) from (cond (traps_hollows_of t.job.process) (hollows t) []) cells cells numbers numbers from × (from ≤ from + 4096)
  hollows_quiet {from} {cells} {numbers} e = (flaws_same (trap false (not-true traps e)) (flaws_none from cells numbers), omega arith)

  pub hollows_found : {from k : ℕ} {cells cells' : List ℕ} {numbers numbers' : List Float} → not traps ≡ false →
      FlawsPut (Good t) from (hollows t) cells cells' numbers numbers' k →
      FlawsPut (Good t) from (cond (traps_hollows_of t.job.process) (hollows t) []) cells cells' numbers numbers' k
  hollows_found e p = flaws_same (trap true (not-false traps e)) p

-- ---- all of them
module _ (s : List ℕ) (at : Regions) {w0 w1 w2 w3 : List ℕ} {r0 r1 r2 r3 : List Float} {c0 c1 c2 c3 : List ℕ} {n0 n1 n2 n3 : List Float} {h i j k : ℕ}
    (walls : RulePut print_walls_of 4096 s at h w0 w1 r0 r1 c0 c1 n0 n1 i) (holes : RulePut print_holes 1024 s at i w1 w2 r1 r2 c1 c2 n1 n2 j)
    (over : RulePut overhangs 1 s at j w2 w3 r2 r3 c2 c3 n2 n3 k) where
  pub words_all : Outside 0 at.items at.words w0 w3
  words_all = outside_then 0 _ _ w0 w1 w3 walls.words_kept (outside_then 0 _ _ w1 w2 w3 holes.words_kept over.words_kept)

  pub reals_all : Outside nan at.falling at.free r0 r3
  reals_all = outside_then nan _ _ r0 r1 r3 walls.reals_kept (outside_then nan _ _ r1 r2 r3 holes.reals_kept over.reals_kept)

  module _ {c c4 : List ℕ} {n n4 : List Float} {m : ℕ} (closed : FlawsPut (Good (part_of s)) 0 (not_closed (part_of s)) c c0 n n0 h)
      (hollow : FlawsPut (Good (part_of s)) k (cond (traps_hollows_of (part_of s).job.process) (hollows (part_of s)) []) c3 c4 n3 n4 m) where
    put_all : FlawsPut (Good (part_of s)) 0 (printing (part_of s)) c c4 n n4 m
    unfolding printing
    put_all = flaws_then closed (flaws_then walls.put (flaws_then holes.put (flaws_then over.put hollow)))

    pub cells_all : length c4 ≡ length c
    cells_all = put_all.cells_kept.long

    pub numbers_all : length n4 ≡ length n
    numbers_all = put_all.numbers_kept.long

    pub printing_put : h ≤ 1 → (upright : Upright) → UprightIs (part_of s) upright → m ≤ k + 4096 → ((part_of s).job.print.has_overhang ≡ true → Marks (part_of s) (lean_of_word (part_of s)) at w3) →
        (x : Summary) → x ≡ print_summary (sub binary64 upright.heights.hi upright.heights.lo) →
        PrintingPut s at w0 w3 r0 r3 c c4 n n4 (record { faults = m; summary = x })
    printing_put one upright u few marks x ex =
        let whole : print_summary (sub binary64 upright.heights.hi upright.heights.lo) ≡ summary_of (part_of s)
        = unfold summary_of in unfold height_of in ap (λ (e : Extent). print_summary (sub binary64 e.hi e.lo)) u.heights_are in
        record {
          put = put_all;
          few = omega (arith, one, walls.few, holes.few, over.few, few);
          summary = ex ∙ whole;
          standing = over.ready.standing;
          ranked = over.ready.ranked;
          marks = marks;
          words_kept = words_all;
          reals_kept = reals_all;
        }
