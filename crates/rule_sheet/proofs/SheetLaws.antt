-- All rules of sheet metal, one after the other: what each leaves for the next, and all of them together.
use mathlib.Core.Path.{◌≡◌, refl, sym, ap, ◌∙◌, subst}
use mathlib.Core.Bool.{true, false, true≢false}
use mathlib.Core.List.{List, [], ◌∷◌, ◌++◌, append-nil}
use Prim.Native.Nat.{ℕ, ◌≤◌, ◌<◌}
use native.Mathlib.Omega.{arith}
use lib.Dec.{lit<}
use lib.ListN.{length}
use lib.Ieee.{Float, nan}
use borrow.Author.Tests.{le-leb, lt-leb}
use Rattle.num_text.specs.Decimal.{accepted}
use Rattle.num_text.proofs.NeverRefused.{accepted_at}
use Rattle.list_laws.specs.Region.{Outside}
use Rattle.list_laws.proofs.Outside.{outside_none, outside_then, outside_wide}
use Rattle.file_job.specs.declared.Job.{Job}
use Rattle.file_part.specs.Part.{Part, part_of}
use Rattle.solid_faces.specs.Faces.{faces_of, Checked}
use Rattle.scratch.specs.declared.regions.Regions.{Regions}
use Rattle.scratch.specs.Regions.{Laid}
use Rattle.scratch.specs.Standing.{Standing}
use Rattle.solid_ranks.specs.Kept.{RanksPut}
use Rattle.solid_ranks.proofs.KeptLaws.{sorts_only}
use Rattle.solid_tours.specs.Work.Kept.{EdgesOrdered}
use Rattle.solid_tours.specs.Work.Kept as tours
use Rattle.wall_samples.specs.Stored.{Readings}
use Rattle.wall_pairs.proofs.KeptLaws.{rounds_kept}
use Rattle.round_all.specs.Kept.{Rounds}
use Rattle.measure_sizes.specs.Reading.{ReadingBounds}
use Rattle.std.specs.Prelude.{Result, Err}
use Rattle.sheet_thickness.specs.declared.Thickness.{Thickness}
use Rattle.sheet_thickness.specs.declared.NoneKept.{NoneKept}
use Rattle.sheet_thickness.specs.Thickness.{kept_readings, thickness_of, thinnest_of, thickest_of, is_uneven}
use Rattle.sheet_thickness.specs.Kept.{ThicknessIs, Measured, OffFaces}
use Rattle.sheet_thickness.proofs.KeptLaws.{still_read, still_ordered}
use Rattle.sheet_thickness.proofs.SizeLaws.{thickness_bounds}
use Rattle.sheet_bends.specs.Bends.{bend_count}
use Rattle.sheet_bends.specs.Kept.{BendsPut}
use Rattle.sheet_bends.specs.Work.{SheetStands}
use Rattle.sheet_bends.proofs.BendLaws.{sheet_stands}
use Rattle.fault_row.specs.declared.summary.Summary.{Summary}
use Rattle.fault_row.specs.declared.summary.Found.{Found}
use Rattle.fault_row.specs.declared.flaw.Flaw.TheVariants.{NotOneThickness}
use Rattle.fault_row.specs.Row.{RowPut}
use Rattle.fault_row.specs.Flaw.{row_of}
use Rattle.fault_row.specs.Flaws.{FlawsPut}
use Rattle.fault_row.specs.Summary.{no_summary, sheet_summary}
use Rattle.fault_row.proofs.RowLaws.{row_put_same}
use Rattle.fault_row.proofs.FlawLaws.{flaws_none, flaws_one, flaws_then, flaws_same}
use Rattle.rule_flanges.specs.fault_text.specs.Good.{Good}
use Rattle.rule_flanges.specs.Flanges.{short_flanges}
use Rattle.rule_holes.specs.Holes.{sheet_holes}
use Rattle.rule_sheet.specs.declared.ready.Ready.{Ready}
use Rattle.rule_sheet.specs.Material.{is_formed, material_flaws}
use Rattle.rule_sheet.specs.Tight.{tight_bends}
use Rattle.rule_sheet.specs.All.{uneven_flaw, bent_flaws, is_measured, formed_flaws, sheet_metal, is_sheet, summary_of, SheetPut}
use Rattle.rule_sheet.specs.Work.{MaterialPut, ReadyPut, UnevenPut, formed_summary, FormedPut}

-- ---- `Not one thickness`
bounds_accepted : (x : Float) → ReadingBounds x → accepted x 2 ≡ true
bounds_accepted x b = accepted_at x 131072 2 b.nonneg b.within (lit< tt) (omega arith)

module _ (t : Part) (found : Thickness) (is : ThicknessIs t found) where
  uneven_is : NotOneThickness found.thinnest found.thickest found.value ≡ uneven_flaw t
  unfolding uneven_flaw
  uneven_is = rw (is.thinnest, is.thickest, is.value) refl

uneven_good : (t : Part) → 0 < faces_of t → accepted (thinnest_of t) 2 ≡ true → accepted (thickest_of t) 2 ≡ true → accepted (thickness_of t) 2 ≡ true → Good t (uneven_flaw t)
unfolding uneven_flaw Good
uneven_good t faces lo hi mid = (faces, lo, hi, mid)

pub uneven_put : {found : Thickness} {from r : ℕ} {cells cells' : List ℕ} {numbers numbers' : List Float} →
    RowPut from (row_of (NotOneThickness found.thinnest found.thickest found.value)) cells cells' numbers numbers' r → UnevenPut found from cells cells' numbers numbers' r
uneven_put {found} {from} {r} {cells} {cells'} {numbers} {numbers'} p =
    record { few = omega (arith, p.count); put = one }
  where
    one : (s : List ℕ) → Checked s → ThicknessIs (part_of s) found → 0 < faces_of (part_of s) →
        FlawsPut (Good (part_of s)) from (uneven_flaw (part_of s) ∷ []) cells cells' numbers numbers' r
    one s checked is faces =
        let t = part_of s in
        let b = thickness_bounds s checked is.some in
        flaws_one (uneven_flaw t) (row_put_same (ap row_of (uneven_is t found is)) p) (uneven_good t faces (bounds_accepted _ b.1) (bounds_accepted _ b.2) (bounds_accepted _ b.0))

-- ---- the bends, the flanges and the holes
pub bent_put : (t : Part) (thick : Float) {from i j k : ℕ} {c0 c1 c2 c3 : List ℕ} {n0 n1 n2 n3 : List Float} →
    FlawsPut (Good t) from (tight_bends t thick) c0 c1 n0 n1 i → FlawsPut (Good t) i (short_flanges t thick) c1 c2 n1 n2 j →
    FlawsPut (Good t) j (sheet_holes t thick) c2 c3 n2 n3 k → FlawsPut (Good t) from (bent_flaws t thick) c0 c3 n0 n3 k
unfolding bent_flaws
bent_put t thick p q r = flaws_then p (flaws_then q r)

-- ---- what there is to find, by what is measured
measured_none : (t : Part) → length (kept_readings t) ≡ 0 → is_measured t ≡ false
unfolding is_measured
measured_none t e = lt-leb 1 (length (kept_readings t)) (omega (arith, e))

measured_some : (t : Part) → 1 ≤ length (kept_readings t) → is_measured t ≡ true
unfolding is_measured
measured_some t h = le-leb 1 (length (kept_readings t)) h

module _ (t : Part) where
  none_found : is_measured t ≡ false → ([] ≡ formed_flaws t) × (no_summary ≡ formed_summary t)
  none_found e = (unfold formed_flaws in rw e refl, unfold formed_summary in rw e refl)

  uneven_found : is_measured t ≡ true → is_uneven t ≡ true → (uneven_flaw t ∷ [] ≡ formed_flaws t) × (no_summary ≡ formed_summary t)
  uneven_found e u = (unfold formed_flaws in rw (e, u) refl, unfold formed_summary in rw (e, u) refl)

  sheet_found : is_measured t ≡ true → is_uneven t ≡ false →
      (bent_flaws t (thickness_of t) ≡ formed_flaws t) × (sheet_summary (thickness_of t) (bend_count t (thickness_of t)) ≡ formed_summary t)
  sheet_found e u = (unfold formed_flaws in rw (e, u) refl, unfold formed_summary in rw (e, u) refl)

-- ---- a part that can be formed
module _ (s : List ℕ) (at : Regions) (w0 w1 w2 : List ℕ) (r0 r1 r2 : List Float) (n : ℕ) (ready : Ready) (found : Result Thickness NoneKept) (h : Standing s at w0 r0) (faces : n ≡ faces_of (part_of s))
    (made : ReadyPut s at w0 w1 r0 r1 ready) (measured : Measured (part_of s) at w1 w2 r1 r2 found) where
  abbrev t : Part
  t = part_of s

  abbrev laid : Laid at
  laid = h.placed.laid

  pub counted : tours.Counted (part_of s) (record { at = at; faces = n; items = ready.items })
  counted = record { faces = faces; items = made.items_are }

  -- what stands after the thickness is measured
  pub ordered_then : EdgesOrdered s at w2 r2
  ordered_then = still_ordered s at w1 w2 r1 r2 measured.words_kept measured.reals_kept made.ordered

  pub readings_then : Readings (part_of s) at w2 r2
  readings_then = still_read s at w1 w2 r1 r2 measured.words_kept measured.reals_kept made.ordered.standing made.readings

  pub rounds_then : Rounds (part_of s) at w2 r2
  rounds_then = rounds_kept s at w1 w2 r1 r2 (sorts_only at w1 w2 r1 r2 laid measured.words_kept measured.reals_kept) made.ordered.standing made.rounds

  words_then : Outside 0 at.items at.words w0 w2
  words_then =
      outside_then 0 _ _ w0 w1 w2 (outside_wide 0 _ _ _ _ w0 w1 (omega arith) (omega (arith, laid)) made.words_kept)
      (outside_wide 0 _ _ _ _ w1 w2 (omega (arith, laid)) (omega (arith, laid)) measured.words_kept)

  pub reals_then : Outside nan at.falling at.reals r0 r2
  reals_then = outside_then nan _ _ r0 r1 r2 made.reals_kept (outside_wide nan _ _ _ _ r1 r2 (omega arith) (omega (arith, laid)) measured.reals_kept)

  -- ---- no reading is kept
  pub formed_none : {from : ℕ} {cells : List ℕ} {numbers : List Float} → from ≤ 1 → (v : NoneKept) → found ≡ Err v → (x : Summary) → x ≡ no_summary →
      FormedPut s at from w0 w2 r0 r2 cells cells numbers numbers (record { faults = from; summary = x })
  formed_none {from} {cells} {numbers} few v none x e =
      let empty = measured_none t (measured.none v none).0 in
      record {
        put = flaws_same (none_found t empty).0 (flaws_none from cells numbers);
        few = omega (arith, few);
        summary = e ∙ (none_found t empty).1;
        standing = ordered_then.standing;
        ranked = ordered_then.ranked;
        marks = λ m u. absurd (true≢false (sym m ∙ empty));
        words_kept = words_then;
        reals_kept = reals_then;
      }

  module _ (v : Thickness) (is : ThicknessIs t v) where
    full : is_measured t ≡ true
    full = measured_some t is.some

    -- ---- not one thickness
    module _ (w3 : List ℕ) (uneven : v.uneven ≡ true) (marks : OffFaces t at w3) (w : Outside 0 at.order at.kinds w2 w3) where
      ordered_last : EdgesOrdered s at w3 r2
      ordered_last = still_ordered s at w2 w3 r2 r2 w (outside_none nan at.falling at.thickness r2) ordered_then

      pub words_uneven : Outside 0 at.items at.words w0 w3
      words_uneven = outside_then 0 _ _ w0 w2 w3 words_then (outside_wide 0 _ _ _ _ w2 w3 (omega (arith, laid)) (omega (arith, laid)) w)

      uneven_flaws : {from k : ℕ} {cells cells' : List ℕ} {numbers numbers' : List Float} → 0 < n → UnevenPut v from cells cells' numbers numbers' k →
          FlawsPut (Good t) from (uneven_flaw t ∷ []) cells cells' numbers numbers' k
      uneven_flaws there p = p.put s h.placed.checked is (omega (arith, there, faces))

      pub cells_uneven : {from k : ℕ} {cells cells' : List ℕ} {numbers numbers' : List Float} → 0 < n → UnevenPut v from cells cells' numbers numbers' k → length cells' ≡ length cells
      cells_uneven there p = (uneven_flaws there p).cells_kept.long

      pub numbers_uneven : {from k : ℕ} {cells cells' : List ℕ} {numbers numbers' : List Float} → 0 < n → UnevenPut v from cells cells' numbers numbers' k → length numbers' ≡ length numbers
      numbers_uneven there p = (uneven_flaws there p).numbers_kept.long

      pub formed_uneven : {from k : ℕ} {cells cells' : List ℕ} {numbers numbers' : List Float} → from ≤ 1 → 0 < n → UnevenPut v from cells cells' numbers numbers' k → (x : Summary) → x ≡ no_summary →
          FormedPut s at from w0 w3 r0 r2 cells cells' numbers numbers' (record { faults = k; summary = x })
      formed_uneven {from} {k} {cells} {cells'} {numbers} {numbers'} few there p x e =
          let off : is_uneven t ≡ true = sym is.uneven ∙ uneven in
          record {
            put = flaws_same (uneven_found t full off).0 (uneven_flaws there p);
            few = omega (arith, few, p.few);
            summary = e ∙ (uneven_found t full off).1;
            standing = ordered_last.standing;
            ranked = ordered_last.ranked;
            marks = λ m u. marks;
            words_kept = words_uneven;
            reals_kept = reals_then;
          }

    -- ---- one thickness
    pub thick_bounds : ReadingBounds v.value
    thick_bounds = subst ReadingBounds (sym is.value) (thickness_bounds s h.placed.checked is.some).0

    module _ (w3 : List ℕ) (b : ℕ) (even : v.uneven ≡ false) (bends : BendsPut t v.value at w2 w3 b) where
      pub sheet_there : SheetStands s (record { edges = record { at = at; faces = n; items = ready.items }; thickness = v.value }) w3 r2
      sheet_there = sheet_stands s (record { edges = record { at = at; faces = n; items = ready.items }; thickness = v.value }) w2 w3 r2 b ordered_then counted rounds_then bends

      pub words_sheet : Outside 0 at.items at.words w0 w3
      words_sheet = outside_then 0 _ _ w0 w2 w3 words_then (outside_wide 0 _ _ _ _ w2 w3 (omega (arith, laid)) (omega (arith, laid)) bends.kept)

      pub formed_sheet : {from k : ℕ} {cells cells' : List ℕ} {numbers numbers' : List Float} →
          FlawsPut (Good t) from (bent_flaws t v.value) cells cells' numbers numbers' k → k ≤ 4194304 → (x : Summary) → x ≡ sheet_summary v.value b →
          FormedPut s at from w0 w3 r0 r2 cells cells' numbers numbers' (record { faults = k; summary = x })
      formed_sheet {from} {k} {cells} {cells'} {numbers} {numbers'} p few x e =
          let off : is_uneven t ≡ false = sym is.uneven ∙ even in
          let thick : v.value ≡ thickness_of t = is.value in
          let all : sheet_summary v.value b ≡ sheet_summary (thickness_of t) (bend_count t (thickness_of t)) = rw (bends.count, thick) refl in
          record {
            put = flaws_same (ap (bent_flaws t) thick ∙ (sheet_found t full off).0) p;
            few = few;
            summary = e ∙ all ∙ (sheet_found t full off).1;
            standing = sheet_there.ordered.standing;
            ranked = sheet_there.ordered.ranked;
            marks = λ m u. absurd (true≢false (sym u ∙ off));
            words_kept = words_sheet;
            reals_kept = reals_then;
          }

-- ---- all of them
metal_none : (t : Part) → is_formed t.job ≡ false → (material_flaws t.job ≡ sheet_metal t) × (no_summary ≡ summary_of t)
metal_none t e = (sym (append-nil (material_flaws t.job)) ∙ (unfold sheet_metal in rw e refl), unfold summary_of in unfold is_sheet in rw e refl)

metal_some : (t : Part) → is_formed t.job ≡ true → (material_flaws t.job ++ formed_flaws t ≡ sheet_metal t) × (formed_summary t ≡ summary_of t)
metal_some t e = (unfold sheet_metal in rw e refl, unfold formed_summary in unfold summary_of in unfold is_sheet in rw e refl)

module _ (s : List ℕ) (at : Regions) (w0 w1 : List ℕ) (r0 r1 : List Float) (h : Standing s at w0 r0) (ranks : RanksPut s at w0 w1 r0 r1) (job : Job) (is : job ≡ (part_of s).job)
    {c0 c1 : List ℕ} {n0 n1 : List Float} {k : ℕ} (some : 0 < faces_of (part_of s)) (material : MaterialPut job c0 c1 n0 n1 k) where
  abbrev laid_at : Laid at
  laid_at = h.placed.laid

  pub words_ranked : Outside 0 at.items at.words w0 w1
  words_ranked =
      outside_wide 0 at.order at.words _ _ w0 w1 (omega (arith, laid_at)) (omega arith)
      (record { below = ranks.only.before; above = ranks.only.past; long = ranks.only.long })

  pub reals_ranked : Outside nan at.falling at.reals r0 r1
  reals_ranked = outside_wide nan _ _ _ _ r0 r1 (omega arith) (omega (arith, laid_at)) ranks.only.keys

  pub said : FlawsPut (Good (part_of s)) 0 (material_flaws (part_of s).job) c0 c1 n0 n1 k
  said = flaws_same (ap material_flaws is) (material.put (part_of s) some)

  pub metal_refused : is_formed job ≡ false → (x : Summary) → x ≡ no_summary → SheetPut s at w0 w1 r0 r1 c0 c1 n0 n1 (record { faults = k; summary = x })
  metal_refused e x ex =
      let off : is_formed (part_of s).job ≡ false = sym (ap is_formed is) ∙ e in
      record {
        put = flaws_same (metal_none (part_of s) off).0 said;
        few = omega (arith, material.few);
        summary = ex ∙ (metal_none (part_of s) off).1;
        standing = ranks.standing;
        ranked = ranks.ranked;
        marks = λ f m u. absurd (true≢false (sym f ∙ off));
        words_kept = words_ranked;
        reals_kept = reals_ranked;
      }

  module _ (w2 : List ℕ) (r2 : List Float) {c2 : List ℕ} {n2 : List Float} (r : Found) (formed : FormedPut s at k w1 w2 r1 r2 c1 c2 n1 n2 r) where
    pub words_metal : Outside 0 at.items at.words w0 w2
    words_metal = outside_then 0 _ _ w0 w1 w2 words_ranked formed.words_kept

    pub reals_metal : Outside nan at.falling at.reals r0 r2
    reals_metal = outside_then nan _ _ r0 r1 r2 reals_ranked formed.reals_kept

    pub cells_metal : length c2 ≡ length c0
    cells_metal = formed.put.cells_kept.long ∙ said.cells_kept.long

    pub numbers_metal : length n2 ≡ length n0
    numbers_metal = formed.put.numbers_kept.long ∙ said.numbers_kept.long

    pub metal_formed : is_formed job ≡ true → SheetPut s at w0 w2 r0 r2 c0 c2 n0 n2 r
    metal_formed e =
        let on : is_formed (part_of s).job ≡ true = sym (ap is_formed is) ∙ e in
        record {
          put = flaws_same (metal_some (part_of s) on).0 (flaws_then said formed.put);
          few = formed.few;
          summary = formed.summary ∙ (metal_some (part_of s) on).1;
          standing = formed.standing;
          ranked = formed.ranked;
          marks = λ f m u. formed.marks m u;
          words_kept = words_metal;
          reals_kept = reals_metal;
        }
