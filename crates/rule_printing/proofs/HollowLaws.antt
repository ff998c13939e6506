-- The rule on hollows: none, one fault, one body after another.
use mathlib.Core.Path.{◌≡◌, refl, sym, ap, ◌∙◌, subst}
use mathlib.Core.Bool.{Bool, true, false, not, cond, true≢false}
use mathlib.Core.Logic.{◌⊎◌, inl, inr}
use mathlib.Core.List.{List, [], ◌∷◌}
use Prim.Native.Nat.{ℕ, ◌+◌, ◌*◌, ◌^◌, ◌≤◌, ◌<◌}
use native.Mathlib.Numerals.{add-one}
use native.Mathlib.Omega.{arith}
use borrow.Author.Tests.{not-true, not-false}
use lib.Dec.{T, lit<}
use lib.ListN.{length, get_or}
use lib.Ieee.{Float, nan, inf, fin, neg, lt, le, eq, of_bits}
use lib.Ieee.Scale.{finite}
use Rattle.num_float.specs.Sign.{NonNeg, plus_zero}
use Rattle.num_float.specs.Within.{Within}
use Rattle.num_float.proofs.Within.{neg_within}
use Rattle.num_float.proofs.NonNegative.{nonneg_plus, nonneg_not_lt}
use Rattle.num_float.proofs.Order.{lt_trans}
use Rattle.num_text.specs.Decimal.{accepted}
use Rattle.num_text.proofs.NeverRefused.{accepted_at}
use Rattle.list_laws.proofs.Regions.{part_place}
use Rattle.list_groups.specs.Groups.{joined}
use Rattle.list_groups.proofs.Flat.{joined_suc, joined_none}
use Rattle.file_job.specs.declared.Job.{Job}
use Rattle.file_job.specs.declared.Process.{Process}
use Rattle.file_job.specs.declared.Process.TheVariants.{CncMachining, SheetMetal, Fdm, Sla, Sls}
use Rattle.file_job.proofs.Places.{place}
use Rattle.file_part.specs.Part.{Part, part_of}
use Rattle.solid_faces.specs.Faces.{faces_of, Checked}
use Rattle.solid_faces.proofs.BodyLaws.{checked_readable}
use Rattle.solid_faces.proofs.FaceLaws.{number_below}
use Rattle.solid_volumes.specs.Volume.{volume_of}
use Rattle.scratch.specs.declared.regions.Regions.{Regions}
use Rattle.scratch.specs.Standing.{Standing}
use Rattle.scratch.proofs.StandingLaws.{placed_polygons}
use Rattle.wall_ray.specs.Strike.{e_9}
use Rattle.measure_sizes.proofs.Volumes.{volume_within}
use Rattle.fault_row.specs.declared.flaw.Flaw.{Flaw}
use Rattle.fault_row.specs.declared.flaw.Flaw.TheVariants.{EnclosedHollowSla, EnclosedHollowSls}
use Rattle.fault_row.specs.Row.{RowPut}
use Rattle.fault_row.specs.Flaw.{row_of}
use Rattle.fault_row.specs.Flaws.{FlawsPut}
use Rattle.fault_row.proofs.RowLaws.{row_put_same}
use Rattle.fault_row.proofs.FlawLaws.{flaws_none, flaws_one, flaws_then, flaws_same}
use Rattle.print_walls.specs.fault_text.specs.Good.{Good}
use Rattle.rule_printing.specs.Rules.{is_hollow, is_sls, hollow_flaw, hollows, traps_hollows_of}
use Rattle.rule_printing.specs.Work.{HollowPut}

-- ---- the process, by its place among the variants
pub traps_some : (p : Process) → 3 ≤ place p → true ≡ traps_hollows_of p
unfolding traps_hollows_of
traps_some CncMachining h = absurd (omega (arith, h))
traps_some SheetMetal h = absurd (omega (arith, h))
traps_some Fdm h = absurd (omega (arith, h))
traps_some Sla h = refl
traps_some Sls h = refl

pub traps_none : (p : Process) → place p ≤ 2 → false ≡ traps_hollows_of p
unfolding traps_hollows_of
traps_none CncMachining h = refl
traps_none SheetMetal h = refl
traps_none Fdm h = refl
traps_none Sla h = absurd (omega (arith, h))
traps_none Sls h = absurd (omega (arith, h))

pub sls_some : (p : Process) → 4 ≤ place p → true ≡ is_sls p
unfolding is_sls
sls_some CncMachining h = absurd (omega (arith, h))
sls_some SheetMetal h = absurd (omega (arith, h))
sls_some Fdm h = absurd (omega (arith, h))
sls_some Sla h = absurd (omega (arith, h))
sls_some Sls h = refl

pub sls_none : (p : Process) → place p ≤ 3 → false ≡ is_sls p
unfolding is_sls
sls_none CncMachining h = refl
sls_none SheetMetal h = refl
sls_none Fdm h = refl
sls_none Sla h = refl
sls_none Sls h = absurd (omega (arith, h))

pub from_place : (k n : ℕ) → k ≡ n → n ≤ k
from_place k n e = omega (arith, e)

-- one of the arms `0 | 1 | 2 | 3`
pub first_four : (k : ℕ) → (k ≡ 0) ⊎ ((k ≡ 1) ⊎ ((k ≡ 2) ⊎ (k ≡ 3))) → k ≤ 3
first_four k (inl e) = omega (arith, e)
first_four k (inr (inl e)) = omega (arith, e)
first_four k (inr (inr (inl e))) = omega (arith, e)
first_four k (inr (inr (inr e))) = omega (arith, e)

-- ---- a negative volume, without its sign, is a number that is printed
small_negative : lt (neg e_9) plus_zero ≡ true
unfolding of_bits neg le lt eq
small_negative = refl

below_zero : (v : Float) → T (finite v) → lt v plus_zero ≡ true → NonNeg (neg v)
unfolding neg
below_zero nan f h = absurd f
below_zero (inf s) f h = absurd f
below_zero (fin true m e) f h = nonneg_plus m e
below_zero (fin false m e) f h = absurd (true≢false (sym h ∙ nonneg_not_lt (fin false m e) (nonneg_plus m e)))

volume_printed : (v : Float) → Within v (2 ^ 58) → lt v (neg e_9) ≡ true → accepted (neg v) 1 ≡ true
volume_printed v w h =
    accepted_at (neg v) (2 ^ 58) 1 (below_zero v w.is_finite (lt_trans v (neg e_9) plus_zero h small_negative)) (neg_within v (2 ^ 58) w) (lit< tt) (omega arith)

-- ---- one body
module _ (t : Part) (b : ℕ) (v : Float) (is : v ≡ volume_of t b) where
  hollow_is : (sls hollow : Bool) → lt v (neg e_9) ≡ hollow → cond hollow (hollow_flaw t sls b ∷ []) [] ≡ cond (is_hollow t b) (hollow_flaw t sls b ∷ []) []
  unfolding is_hollow
  hollow_is sls hollow e = ap (λ (c : Bool). cond c (hollow_flaw t sls b ∷ []) []) (sym e ∙ ap (λ (x : Float). lt x (neg e_9)) is)

  sls_is : EnclosedHollowSls b (neg v) ≡ hollow_flaw t true b
  unfolding hollow_flaw
  sls_is = ap (λ (x : Float). EnclosedHollowSls b (neg x)) is

  sla_is : EnclosedHollowSla b (neg v) ≡ hollow_flaw t false b
  unfolding hollow_flaw
  sla_is = ap (λ (x : Float). EnclosedHollowSla b (neg x)) is

module _ (s : List ℕ) (checked : Checked s) (b : ℕ) (v : Float) (is : v ≡ volume_of (part_of s) b) (low : b < (part_of s).polygons) (some : 0 < faces_of (part_of s)) (e : lt v (neg e_9) ≡ true) where
  printed : accepted (neg v) 1 ≡ true
  printed = volume_printed v (subst (λ (x : Float). Within x (2 ^ 58)) (sym is) (volume_within s (checked_readable s checked) b)) e

  sls_good : Good (part_of s) (EnclosedHollowSls b (neg v))
  unfolding Good
  sls_good = (some, low, printed)

  sla_good : Good (part_of s) (EnclosedHollowSla b (neg v))
  unfolding Good
  sla_good = (some, low, printed)

module _ {b : ℕ} {v : Float} {from : ℕ} where
  pub hollow_none : (sls : Bool) {cells : List ℕ} {numbers : List Float} → not (lt v (neg e_9)) ≡ true → HollowPut sls b v from cells cells numbers numbers from
  hollow_none sls {cells} {numbers} e =
      record { few = omega arith; put = λ s checked is low some. flaws_same (hollow_is (part_of s) b v is sls false (not-true (lt v (neg e_9)) e)) (flaws_none from cells numbers) }

  module _ {r : ℕ} {cells cells' : List ℕ} {numbers numbers' : List Float} (e : not (lt v (neg e_9)) ≡ false) where
    pub hollow_sls : (sls : Bool) → sls ≡ true → RowPut from (row_of (EnclosedHollowSls b (neg v))) cells cells' numbers numbers' r → HollowPut sls b v from cells cells' numbers numbers' r
    hollow_sls sls es p = subst (λ (x : Bool). HollowPut x b v from cells cells' numbers numbers' r) (sym es)
        (record {
          few = omega (arith, p.count);
          put = λ s checked is low some.
              flaws_same (hollow_is (part_of s) b v is true true (not-false (lt v (neg e_9)) e))
              (flaws_one (hollow_flaw (part_of s) true b) (row_put_same (ap row_of (sls_is (part_of s) b v is)) p)
              (subst (Good (part_of s)) (sls_is (part_of s) b v is) (sls_good s checked b v is low some (not-false (lt v (neg e_9)) e))));
        })

    pub hollow_sla : (sls : Bool) → sls ≡ false → RowPut from (row_of (EnclosedHollowSla b (neg v))) cells cells' numbers numbers' r → HollowPut sls b v from cells cells' numbers numbers' r
    hollow_sla sls es p = subst (λ (x : Bool). HollowPut x b v from cells cells' numbers numbers' r) (sym es)
        (record {
          few = omega (arith, p.count);
          put = λ s checked is low some.
              flaws_same (hollow_is (part_of s) b v is false true (not-false (lt v (neg e_9)) e))
              (flaws_one (hollow_flaw (part_of s) false b) (row_put_same (ap row_of (sla_is (part_of s) b v is)) p)
              (subst (Good (part_of s)) (sla_is (part_of s) b v is) (sla_good s checked b v is low some (not-false (lt v (neg e_9)) e))));
        })

-- ---- one body after another
abbrev hollow_at : Part → ℕ → List Flaw
hollow_at t = λ b. cond (is_hollow t b) (hollow_flaw t (is_sls t.job.process) b ∷ []) []

-- the faults of the bodies below b are put
pub record HollowsTo (t : Part) (b from : ℕ) (cells cells' : List ℕ) (numbers numbers' : List Float) (k : ℕ) : Type 0 where
  pub few : k ≤ from + b
  pub put : FlawsPut (Good t) from (joined (hollow_at t) b) cells cells' numbers numbers' k

pub hollows_start : (t : Part) (from : ℕ) (cells : List ℕ) (numbers : List Float) → HollowsTo t 0 from cells cells numbers numbers from
hollows_start t from cells numbers = record { few = omega arith; put = flaws_same (sym (joined_none (hollow_at t))) (flaws_none from cells numbers) }

pub hollows_end : (t : Part) {b from k : ℕ} {cells cells' : List ℕ} {numbers numbers' : List Float} → b ≡ t.polygons → HollowsTo t b from cells cells' numbers numbers' k →
    FlawsPut (Good t) from (hollows t) cells cells' numbers numbers' k
unfolding hollows
hollows_end t e p = flaws_same (ap (joined (hollow_at t)) e) p.put

module _ (s : List ℕ) (at : Regions) (words : List ℕ) (reals : List Float) (stands : Standing s at words reals) (b : ℕ) (low : b < at.polygons) where
  small : at.volumes + b < 1048576
  small = omega (arith, low, stands.placed.laid)

  pub volume_room : at.volumes + b < length reals
  volume_room = omega (arith, low, stands.placed.laid, stands.reals_room)

  pub volume_fits : at.volumes + b < 2 ^ 64
  volume_fits = omega (arith, small)

  pub volume_bytes : (at.volumes + b) * 8 < 2 ^ 64
  volume_bytes = omega (arith, small)

  -- the rows that are there and the body are numbers of 32 bits
  pub hollow_fits : {from k : ℕ} → from ≤ 65536 → k ≤ from + b → (k < 4294967296) × (b < 4294967296)
  hollow_fits few most = (omega (arith, few, most, small), omega (arith, small))

  there : b < (part_of s).polygons
  there = omega (arith, low, placed_polygons s at stands.placed)

  -- the volumes in the scratch
  volume_at : at.bodies ≡ true → get_or reals (at.volumes + b) nan ≡ volume_of (part_of s) b
  volume_at on = sym (part_place at.volumes at.boxes reals nan b (omega (arith, low, stands.placed.laid))) ∙ (stands.the_reals.volumes on).each b there

  pub hollows_next : at.bodies ≡ true → (job : Job) → job ≡ (part_of s).job → (sls : Bool) → sls ≡ is_sls job.process → {from k r : ℕ} {c c' c'' : List ℕ} {n n' n'' : List Float} →
      HollowsTo (part_of s) b from c c' n n' k → HollowPut sls b (get_or reals (at.volumes + b) nan) k c' c'' n' n'' r → HollowsTo (part_of s) (b + 1) from c c'' n n'' r
  hollows_next on job ej sls es p q =
      let some : 0 < faces_of (part_of s) = omega (arith, number_below (part_of s) b there) in
      record {
        few = omega (arith, p.few, q.few);
        put = flaws_same (sym (joined_suc (hollow_at (part_of s)) b) ∙ ap (joined (hollow_at (part_of s))) (sym (add-one b)))
            (flaws_then p.put
            (flaws_same (ap (λ (x : Bool). cond (is_hollow (part_of s) b) (hollow_flaw (part_of s) x b ∷ []) []) (es ∙ ap (λ (j : Job). is_sls j.process) ej)) (q.put s stands.placed.checked (volume_at on) there some)));
      }
