-- What is found of a part, by the process of its job.
use mathlib.Core.Path.{◌≡◌, refl, sym, ap, ◌∙◌}
use mathlib.Core.Bool.{true, cond}
use mathlib.Core.Logic.{◌⊎◌, inl, inr}
use mathlib.Core.List.{List, []}
use Prim.Native.Nat.{ℕ}
use native.Mathlib.Omega.{arith}
use lib.Dec.{eqb}
use lib.Ieee.{Float}
use borrow.Author.Tests.{eq-eqb, ne_eqb}
use Rattle.file_job.specs.declared.Job.{Job}
use Rattle.file_job.specs.declared.Process.{Process}
use Rattle.file_job.specs.declared.Process.TheVariants.{CncMachining, SheetMetal, Fdm, Sla, Sls}
use Rattle.file_part.specs.Part.{Part, part_of}
use Rattle.solid_faces.specs.Faces.{faces_of}
use Rattle.scratch.specs.declared.regions.Regions.{Regions}
use Rattle.scratch.specs.declared.regions.Stages.{Stages}
use Rattle.scratch.specs.Standing.{Standing}
use Rattle.fault_row.specs.declared.summary.Summary.{Summary}
use Rattle.fault_row.specs.declared.summary.Found.{Found}
use Rattle.fault_row.specs.Summary.{no_summary}
use Rattle.fault_row.proofs.FlawLaws.{flaws_none, flaws_same}
use Rattle.rule_sheet.specs.All.{SheetPut}
use Rattle.rule_printing.specs.Rules.{traps_hollows_of}
use Rattle.rule_printing.specs.All.{printing, PrintingPut}
use Rattle.rule_printing.specs.All as print
use Rattle.dfm_core.specs.Faults.{flaws_by, flaws_of, summary_by, summary_of}
use Rattle.dfm_core.specs.Work.{asks_segments, StagesFor, Asked, MachinedPut, FaultsFound}
use Rattle.dfm_core.proofs.ToldLaws.{told_machined, told_sheet, told_print}

-- ---- what a process asks for
pub stages_for : (p q : Process) (r : Stages) → p ≡ q → r.segments ≡ asks_segments q → r.bodies ≡ traps_hollows_of q → StagesFor p r
stages_for p q r e es eb = record { segments = es ∙ ap asks_segments (sym e); bodies = eb ∙ ap traps_hollows_of (sym e) }

-- each process asks for segments
pub all_ask : (p : Process) → true ≡ asks_segments p
unfolding asks_segments
all_ask CncMachining = refl
all_ask SheetMetal = refl
all_ask Fdm = refl
all_ask Sla = refl
all_ask Sls = refl

pub asked : (s : List ℕ) (at : Regions) (job : Job) (stages : Stages) → job ≡ (part_of s).job → StagesFor job.process stages → at.segments ≡ stages.segments →
    at.bodies ≡ stages.bodies → Asked (part_of s) at
asked s at job stages e for es eb =
    record {
      segments = es ∙ for.segments ∙ ap (λ (j : Job). asks_segments j.process) e;
      bodies = eb ∙ for.bodies ∙ ap (λ (j : Job). traps_hollows_of j.process) e;
    }

-- the process of the job that is read
pub process_is : (s : List ℕ) (job : Job) (p : Process) → job ≡ (part_of s).job → job.process ≡ p → (part_of s).job.process ≡ p
process_is s job p ej ep = ap (λ (j : Job). j.process) (sym ej) ∙ ep

-- so they are there
pub with_segments : (t : Part) (at : Regions) → Asked t at → at.segments ≡ true
with_segments t at h = h.segments ∙ sym (all_ask t.job.process)

-- FDM, SLA and SLS print
pub by_printing : (t : Part) (p : Process) → (p ≡ Fdm) ⊎ ((p ≡ Sla) ⊎ (p ≡ Sls)) → (printing t ≡ flaws_by p t) × (print.summary_of t ≡ summary_by p t)
unfolding flaws_by summary_by
by_printing t p (inl e) = (rw e refl, rw e refl)
by_printing t p (inr (inl e)) = (rw e refl, rw e refl)
by_printing t p (inr (inr e)) = (rw e refl, rw e refl)

-- ---- with faces and without
by_none : {X : Type 0} (n : ℕ) (a b : X) → n ≡ 0 → a ≡ cond (eqb n 0) a b
by_none n a b e = rw (eq-eqb n 0 e) refl

by_some : {X : Type 0} (n : ℕ) (a b : X) → (n ≡ 0 → ⊥) → b ≡ cond (eqb n 0) a b
by_some n a b e = rw (ne_eqb n 0 e) refl

none_flaws : (t : Part) → faces_of t ≡ 0 → [] ≡ flaws_of t
unfolding flaws_of
none_flaws t e = by_none (faces_of t) [] (flaws_by t.job.process t) e

none_summary : (t : Part) → faces_of t ≡ 0 → no_summary ≡ summary_of t
unfolding summary_of
none_summary t e = by_none (faces_of t) no_summary (summary_by t.job.process t) e

some_flaws : (t : Part) (p : Process) → (faces_of t ≡ 0 → ⊥) → t.job.process ≡ p → flaws_by p t ≡ flaws_of t
unfolding flaws_of
some_flaws t p some e = ap (λ (q : Process). flaws_by q t) (sym e) ∙ by_some (faces_of t) [] (flaws_by t.job.process t) some

some_summary : (t : Part) (p : Process) → (faces_of t ≡ 0 → ⊥) → t.job.process ≡ p → summary_by p t ≡ summary_of t
unfolding summary_of
some_summary t p some e = ap (λ (q : Process). summary_by q t) (sym e) ∙ by_some (faces_of t) no_summary (summary_by t.job.process t) some

-- ---- what is found
pub found_none : (s : List ℕ) (at : Regions) (words : List ℕ) (reals : List Float) (cells : List ℕ) (numbers : List Float) (n : ℕ) → n ≡ faces_of (part_of s) → n ≡ 0 → (x : Summary) → x ≡ no_summary → Standing s at words reals →
    FaultsFound s at words words reals reals cells cells numbers numbers (record { faults = 0; summary = x })
found_none s at words reals cells numbers n is empty x e standing =
    let none : faces_of (part_of s) ≡ 0 = sym is ∙ empty in
    record {
      put = flaws_same (none_flaws (part_of s) none) (flaws_none 0 cells numbers);
      few = omega arith;
      summary = e ∙ none_summary (part_of s) none;
      standing = standing;
      ranked = record { each = λ f low. absurd (omega (arith, low, none)) };
      told = λ k low _. absurd (omega (arith, low));
      words_long = refl;
      reals_long = refl;
    }

module _ (s : List ℕ) (at : Regions) (words words' : List ℕ) (reals reals' : List Float) (cells cells' : List ℕ) (numbers numbers' : List Float) (n : ℕ)
    (is : n ≡ faces_of (part_of s)) where
  module _ (full : n ≡ 0 → ⊥) (r : Found) where
    some : faces_of (part_of s) ≡ 0 → ⊥
    some none = full (is ∙ none)

    pub found_machined : (part_of s).job.process ≡ CncMachining → MachinedPut s at words words' reals reals' cells cells' numbers numbers' r →
        FaultsFound s at words words' reals reals' cells cells' numbers numbers' r
    unfolding flaws_by summary_by
    found_machined e h =
        record {
          put = flaws_same (some_flaws (part_of s) CncMachining some e) h.put.put;
          few = omega (arith, h.put.few);
          summary = h.summary ∙ some_summary (part_of s) CncMachining some e;
          standing = h.put.standing;
          ranked = h.put.ranked;
          told = told_machined h.put;
          words_long = h.put.words_kept.long;
          reals_long = h.put.reals_kept.long;
        }

    pub found_sheet : (part_of s).job.process ≡ SheetMetal → SheetPut s at words words' reals reals' cells cells' numbers numbers' r →
        FaultsFound s at words words' reals reals' cells cells' numbers numbers' r
    unfolding flaws_by summary_by
    found_sheet e h =
        record {
          put = flaws_same (some_flaws (part_of s) SheetMetal some e) h.put;
          few = h.few;
          summary = h.summary ∙ some_summary (part_of s) SheetMetal some e;
          standing = h.standing;
          ranked = h.ranked;
          told = told_sheet h;
          words_long = h.words_kept.long;
          reals_long = h.reals_kept.long;
        }

    -- by each process that prints
    pub found_print : (p : Process) → (part_of s).job.process ≡ p → printing (part_of s) ≡ flaws_by p (part_of s) → print.summary_of (part_of s) ≡ summary_by p (part_of s) →
        Asked (part_of s) at → PrintingPut s at words words' reals reals' cells cells' numbers numbers' r →
        FaultsFound s at words words' reals reals' cells cells' numbers numbers' r
    found_print p e ef es asks h =
        record {
          put = flaws_same (ef ∙ some_flaws (part_of s) p some e) h.put;
          few = omega (arith, h.few);
          summary = h.summary ∙ es ∙ some_summary (part_of s) p some e;
          standing = h.standing;
          ranked = h.ranked;
          told = told_print asks.bodies h;
          words_long = h.words_kept.long;
          reals_long = h.reals_kept.long;
        }
