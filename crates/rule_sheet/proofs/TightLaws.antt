-- The rule on tight bends: none, one fault, one bend after another.
use mathlib.Core.Path.{◌≡◌, refl, sym, ap, ◌∙◌, subst}
use mathlib.Core.Bool.{Bool, true, false, cond}
use mathlib.Core.List.{List, [], ◌∷◌, ◌++◌, append-nil}
use Prim.Native.Nat.{ℕ, suc, ◌+◌, ◌-◌, ◌≤◌, ◌<◌}
use native.Mathlib.Omega.{arith}
use native.Mathlib.Numerals.{add-one}
use lib.IntN.{pos}
use lib.Dec.{lit<, lit≤}
use lib.Ieee.{Float, binary64, add, mul, div, lt, le, eq, of_int, of_bits}
use Rattle.num_float.specs.Sign.{NonNeg, plus_zero}
use Rattle.num_float.specs.Within.{Within, Beyond}
use Rattle.num_float.proofs.Within.{held_small, mul_within, div_within, whole_within}
use Rattle.num_float.proofs.Sign.{mul_nonneg, div_nonneg, whole_nonneg}
use Rattle.num_text.proofs.NeverRefused.{accepted_at}
use Rattle.math.specs.Vector.{one}
use Rattle.list_groups.specs.Groups.{joined}
use Rattle.list_groups.proofs.Flat.{joined_none, joined_suc}
use Rattle.file_job.specs.declared.Job.{Job}
use Rattle.file_part.specs.Part.{Part, part_of}
use Rattle.solid_faces.specs.Faces.{faces_of, Checked}
use Rattle.solid_faces.proofs.BodyLaws.{checked_faces}
use Rattle.scratch.specs.declared.regions.Regions.{Regions}
use Rattle.scratch.specs.Standing.{Standing}
use Rattle.wall_ray.specs.Strike.{e_9}
use Rattle.round_all.specs.declared.round.Round.{Round}
use Rattle.round_all.specs.Round.{round_of}
use Rattle.measure_sizes.specs.Reading.{ReadingBounds}
use Rattle.measure_sizes.specs.Round.{RoundBounds}
use Rattle.measure_sizes.proofs.Rounds.{round_bounds}
use Rattle.sheet_bends.specs.Bends.{outside_of, is_bend}
use Rattle.sheet_bends.proofs.BendLaws.{bend_faces}
use Rattle.fault_row.specs.declared.flaw.Flaw.TheVariants.{TightBend}
use Rattle.fault_row.specs.Row.{RowPut}
use Rattle.fault_row.specs.Flaw.{row_of}
use Rattle.fault_row.specs.Flaws.{FlawsPut}
use Rattle.fault_row.proofs.FlawLaws.{flaws_none, flaws_one, flaws_then, flaws_same}
use Rattle.rule_flanges.specs.fault_text.specs.Good.{Good}
use Rattle.rule_flanges.specs.fault_text.proofs.JobLaws.{ratio_to}
use Rattle.rule_sheet.specs.Material.{ratio_of}
use Rattle.rule_sheet.specs.Tight as tight
use Rattle.rule_sheet.specs.Work.{TightPut}

-- ---- one bend
module _ {inner : Round} {outer : ℕ} {least : Float} {from : ℕ} {cells : List ℕ} {numbers : List Float} where
  pub tight_none : lt (add binary64 inner.radius e_9) least ≡ false → TightPut inner outer least from cells cells numbers numbers from
  tight_none e =
      record { few = omega arith; put = λ t is b low high n w. flaws_same (sym (quiet t is)) (flaws_none from cells numbers) }
    where
      quiet : (t : Part) → inner ≡ round_of t inner.face → tight.tight_bend t least inner.face outer ≡ []
      quiet t is = unfold tight.tight_bend in rw (← is, e) refl

module _ {inner : Round} {outer : ℕ} {least : Float} {from : ℕ} {cells cells' : List ℕ} {numbers numbers' : List Float} {r : ℕ} where
  pub tight_one : lt (add binary64 inner.radius e_9) least ≡ true →
      RowPut from (row_of (TightBend inner.face outer inner.radius least)) cells cells' numbers numbers' r → TightPut inner outer least from cells cells' numbers numbers' r
  unfolding Good
  tight_one e p =
      record {
        few = omega (arith, p.count);
        put = λ t is b low high n w.
            flaws_same (sym (found t is)) (flaws_one (TightBend inner.face outer inner.radius least) p
            (low, high, accepted_at inner.radius 10000 2 b.radius_nonneg b.radius_within (lit< tt) (omega arith), accepted_at least 17179869184 2 n w (lit< tt) (omega arith)));
      }
    where
      found : (t : Part) → inner ≡ round_of t inner.face → tight.tight_bend t least inner.face outer ≡ TightBend inner.face outer inner.radius least ∷ []
      found t is = unfold tight.tight_bend in rw (← is, e) refl

-- ---- the least radius of an accepted file
thousand_beyond : Beyond (of_bits binary64 0x408f_4000_0000_0000) 1
unfolding of_bits
thousand_beyond = record { is_finite = tt; size = lit≤ tt }

thousand_above : lt plus_zero (of_bits binary64 0x408f_4000_0000_0000) ≡ true
unfolding of_bits le lt eq
thousand_above = refl

one_within : Within one 100000
unfolding of_bits
one_within = record { is_finite = tt; size = lit≤ tt }

one_nonneg : NonNeg one
unfolding of_bits le lt eq
one_nonneg = refl

ratio_within : (job : Job) → job.material.bend_ratio ≤ 100000 → NonNeg (ratio_of job) × Within (ratio_of job) 100000
unfolding ratio_of
ratio_within job small = either job.has_material
  where
    count : Within (of_int binary64 (pos job.material.bend_ratio)) job.material.bend_ratio
    count = whole_within job.material.bend_ratio (omega (arith, small))

    either : (b : Bool) → NonNeg (cond b (div binary64 (of_int binary64 (pos job.material.bend_ratio)) (of_bits binary64 0x408f_4000_0000_0000)) one)
        × Within (cond b (div binary64 (of_int binary64 (pos job.material.bend_ratio)) (of_bits binary64 0x408f_4000_0000_0000)) one) 100000
    either false = (one_nonneg, one_within)
    either true = (
      div_nonneg _ _ count.is_finite thousand_beyond.is_finite (whole_nonneg job.material.bend_ratio) thousand_above,
      div_within (of_int binary64 (pos job.material.bend_ratio)) (of_bits binary64 0x408f_4000_0000_0000) job.material.bend_ratio 1 100000 count thousand_beyond (omega (arith, small))
          (held_small 100000 (lit< tt)),
    )

module _ (s : List ℕ) (h : Checked s) (thick : Float) (b : ReadingBounds thick) where
  ratio : NonNeg (ratio_of (part_of s).job) × Within (ratio_of (part_of s).job) 100000
  ratio = ratio_within (part_of s).job (ratio_to s h)

  pub least_nonneg : NonNeg (tight.min_radius (part_of s) thick)
  unfolding tight.min_radius
  least_nonneg = mul_nonneg _ _ ratio.1.is_finite b.within.is_finite ratio.0 b.nonneg

  pub least_within : Within (tight.min_radius (part_of s) thick) 17179869184
  unfolding tight.min_radius
  least_within = mul_within _ _ 100000 131072 17179869184 ratio.1 b.within (lit≤ tt) (held_small 17179869184 (lit< tt))

-- ---- one bend after another
-- the faults of the faces below f are put
abbrev pub TightTo : Part → Float → ℕ → ℕ → List ℕ → List ℕ → List Float → List Float → ℕ → Type 0
TightTo t thick f from cells cells' numbers numbers' k =
    (k ≤ from + f) × FlawsPut (Good t) from (joined (tight.bend_tight t thick) f) cells cells' numbers numbers' k

pub tight_start : (t : Part) (thick : Float) (from : ℕ) (cells : List ℕ) (numbers : List Float) → TightTo t thick 0 from cells cells numbers numbers from
tight_start t thick from cells numbers = (omega arith, flaws_same (sym (joined_none (tight.bend_tight t thick))) (flaws_none from cells numbers))

pub tight_end : (t : Part) (thick : Float) {f from k : ℕ} {cells cells' : List ℕ} {numbers numbers' : List Float} → f ≡ faces_of t →
    TightTo t thick f from cells cells' numbers numbers' k → FlawsPut (Good t) from (tight.tight_bends t thick) cells cells' numbers numbers' k
unfolding tight.tight_bends
tight_end t thick e p = flaws_same (ap (joined (tight.bend_tight t thick)) e) p.1

module _ (t : Part) (thick : Float) (f : ℕ) where
  pass_is : is_bend t thick f ≡ false → joined (tight.bend_tight t thick) f ≡ joined (tight.bend_tight t thick) (f + 1)
  unfolding tight.bend_tight
  pass_is e = sym (append-nil (joined (tight.bend_tight t thick) f)) ∙ rw (add-one, joined_suc, e) refl

  pub tight_pass : {from k : ℕ} {cells cells' : List ℕ} {numbers numbers' : List Float} → is_bend t thick f ≡ false →
      TightTo t thick f from cells cells' numbers numbers' k → TightTo t thick (f + 1) from cells cells' numbers numbers' k
  tight_pass e p = (omega (arith, p.0), flaws_same (pass_is e) p.1)

round_face : (t : Part) (f : ℕ) → (round_of t f).face ≡ f
unfolding round_of
round_face t f = refl

module _ (s : List ℕ) (checked : Checked s) (thick : Float) (b : ReadingBounds thick) (f : ℕ) (low : f < faces_of (part_of s)) (bend : is_bend (part_of s) thick f ≡ true) where
  abbrev t : Part
  t = part_of s

  next_is : joined (tight.bend_tight t thick) f ++ tight.tight_bend t (tight.min_radius t thick) f (outside_of t thick f) ≡ joined (tight.bend_tight t thick) (f + 1)
  unfolding tight.bend_tight
  next_is = rw (add-one, joined_suc, bend) refl

  module _ (inner : Round) (is : inner ≡ round_of t f) where
    pub inner_face : inner.face ≡ f
    inner_face = ap (λ (x : Round). x.face) is ∙ round_face t f

    pub tight_next : {from k r : ℕ} {c c' c'' : List ℕ} {n n' n'' : List Float} (outer : ℕ) (least : Float) → outer ≡ outside_of t thick f → least ≡ tight.min_radius t thick →
        TightTo t thick f from c c' n n' k → TightPut inner outer least k c' c'' n' n'' r → TightTo t thick (f + 1) from c c'' n n'' r
    tight_next {from} {k} {r} {c} {c'} {c''} {n} {n'} {n''} outer least eo el p q =
        let faces = bend_faces t thick f bend in
        let bounds : RoundBounds inner = subst RoundBounds (sym is) (round_bounds s checked f low faces.0) in
        let same : inner ≡ round_of t inner.face = is ∙ ap (round_of t) (sym inner_face) in
        let one = q.put t same bounds (omega (arith, inner_face, low)) (omega (arith, eo, faces.1)) (subst NonNeg (sym el) (least_nonneg s checked thick b))
        (subst (λ (x : Float). Within x 17179869184) (sym el) (least_within s checked thick b)) in
        let named : tight.tight_bend t least inner.face outer ≡ tight.tight_bend t (tight.min_radius t thick) f (outside_of t thick f) = rw (el, inner_face, eo) refl in
        (omega (arith, p.0, q.few), flaws_same next_is (flaws_then p.1 (flaws_same named one)))

-- ---- in the words of the loop
pub bend_room : (s : List ℕ) (at : Regions) {words : List ℕ} {reals : List Float} → Standing s at words reals → (thick : Float) (f : ℕ) → f < faces_of (part_of s) → {g : ℕ} →
    (is_bend (part_of s) thick f ≡ true) × (g ≡ outside_of (part_of s) thick f) → (inner : Round) → inner ≡ round_of (part_of s) f → (from : ℕ) {k : ℕ} → from ≤ 1 → k ≤ from + f →
    (k < 4294967296) × ((inner.face < 4294967296) × (g < 4294967296))
bend_room s at h thick f low bend inner is from few most =
    let face = ap (λ (x : Round). x.face) is ∙ round_face (part_of s) f in
    let small = checked_faces s h.placed.checked in
    let out = (bend_faces (part_of s) thick f bend.0).1 in
    (omega (arith, low, small, few, most), (omega (arith, face, low, small), omega (arith, bend.1, out, small)))

pub least_is : (t : Part) (job : Job) (ratio thick : Float) → job ≡ t.job → ratio ≡ ratio_of job → mul binary64 ratio thick ≡ tight.min_radius t thick
unfolding tight.min_radius
least_is t job ratio thick ej er = rw (er, ej) refl
