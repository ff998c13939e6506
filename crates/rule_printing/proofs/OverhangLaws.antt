-- The rule on what hangs over: what it is held against, and one fault or none.
use mathlib.Core.Path.{◌≡◌, refl, sym, ap, subst}
use mathlib.Core.Bool.{Bool, true, false, cond}
use mathlib.Core.List.{List, [], ◌∷◌}
use Prim.Native.Nat.{ℕ, ◌^◌, ◌≤◌, ◌<◌}
use native.Mathlib.Omega.{arith}
use borrow.Author.Tests.{eq-eqb, ne_eqb}
use lib.Dec.{eqb, lit<}
use lib.Ieee.{Float, binary64, add, sub, mul}
use Rattle.num_real.specs.Select.{max_of}
use Rattle.num_sine.specs.Sine.{sine_of}
use Rattle.num_text.specs.Decimal.{accepted}
use Rattle.num_text.proofs.NeverRefused.{accepted_at}
use Rattle.math.specs.declared.Vec3.{Vec3}
use Rattle.math.specs.Vector.{one}
use Rattle.file_part.specs.Part.{Part, part_of}
use Rattle.solid_faces.specs.Faces.{faces_of, Checked}
use Rattle.wall_ray.specs.Strike.{e_9}
use Rattle.wall_samples.specs.Samples.{e_6}
use Rattle.round_frame.specs.declared.extent.Extent.{Extent}
use Rattle.print_height.specs.Height.{height_of}
use Rattle.print_overhang.specs.declared.Overhang.{Overhang}
use Rattle.print_overhang.specs.Overhang.{tol_of, lean_of_word, overhang_count, overhang_area}
use Rattle.print_overhang.proofs.SizeLaws.{overhang_few, overhang_within, overhang_nonneg}
use Rattle.fault_row.specs.declared.flaw.Flaw.TheVariants as flaw
use Rattle.fault_row.specs.Row.{RowPut}
use Rattle.fault_row.specs.Flaw.{row_of}
use Rattle.fault_row.proofs.FlawLaws.{flaws_none, flaws_one, flaws_same}
use Rattle.print_walls.specs.fault_text.specs.Good.{Good}
use Rattle.print_walls.specs.fault_text.proofs.SettingsLaws.{limit_accepted}
use Rattle.rule_printing.specs.Work.{HeightsAre, OverhangPut}

-- ---- what polygons are held against
pub lean_is : (t : Part) {up : Vec3} {heights : Extent} {tenths : ℕ} → HeightsAre t up heights tenths → (wide steep : Float) → wide ≡ max_of (sub binary64 heights.hi heights.lo) one →
    steep ≡ sine_of tenths → record { up = up; plate = add binary64 heights.lo (mul binary64 e_6 wide); steep = add binary64 steep e_9 } ≡ lean_of_word t
unfolding lean_of_word tol_of height_of
lean_is t h wide steep ew es = rw (ew, es, h.up_is, h.heights_are, h.limit_is) refl

-- ---- one row or none
module _ (found : Overhang) where
  flaw_is : (b : Bool) → eqb found.count 0 ≡ b →
      cond b [] (flaw.Overhang found.count found.area ∷ []) ≡ cond (eqb found.count 0) [] (flaw.Overhang found.count found.area ∷ [])
  flaw_is b e = sym (ap (λ (c : Bool). cond c [] (flaw.Overhang found.count found.area ∷ [])) e)

  pub overhang_none : {from : ℕ} {cells : List ℕ} {numbers : List Float} → found.count ≡ 0 → OverhangPut found from cells cells numbers numbers from
  overhang_none {from} {cells} {numbers} e =
      record { few = omega arith; put = λ s checked count area some. flaws_same (flaw_is true (eq-eqb found.count 0 e)) (flaws_none from cells numbers) }

  good : (s : List ℕ) → Checked s → found.count ≡ overhang_count (part_of s) (lean_of_word (part_of s)) → found.area ≡ overhang_area (part_of s) (lean_of_word (part_of s)) → 0 < faces_of (part_of s) →
      (found.count ≡ 0 → ⊥) → Good (part_of s) (flaw.Overhang found.count found.area)
  unfolding Good
  good s checked count area some e =
      let lean = lean_of_word (part_of s) in
      let printed : accepted found.area 1 ≡ true
      = subst (λ (x : Float). accepted x 1 ≡ true) (sym area)
      (accepted_at (overhang_area (part_of s) lean) (2 ^ 59) 1 (overhang_nonneg s checked lean) (overhang_within s checked lean) (lit< tt) (omega arith)) in
      (some, positive found.count e, omega (arith, count, overhang_few s checked lean), printed, limit_accepted s checked)
    where
      positive : (k : ℕ) → (k ≡ 0 → ⊥) → 1 ≤ k
      positive k z = omega (arith, z)

  pub overhang_one : {from r : ℕ} {cells cells' : List ℕ} {numbers numbers' : List Float} → (found.count ≡ 0 → ⊥) →
      RowPut from (row_of (flaw.Overhang found.count found.area)) cells cells' numbers numbers' r → OverhangPut found from cells cells' numbers numbers' r
  overhang_one e p =
      record {
        few = omega (arith, p.count);
        put = λ s checked count area some.
            flaws_same (flaw_is false (ne_eqb found.count 0 e))
            (flaws_one (flaw.Overhang found.count found.area) p (good s checked count area some e));
      }
