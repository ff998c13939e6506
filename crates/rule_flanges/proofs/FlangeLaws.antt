-- The faults of short flanges: a leg, the legs of a bend, the bends of a sheet.
use mathlib.Core.Path.{◌≡◌, sym, ap, ◌∙◌, subst}
use mathlib.Core.Bool.{true, false}
use mathlib.Core.List.{List, [], ◌∷◌, ◌++◌, append-nil, append_assoc}
use Prim.Native.Nat.{ℕ, ◌+◌, ◌-◌, ◌*◌, ◌≤◌, ◌<◌}
use native.Mathlib.Numerals.{add-one}
use native.Mathlib.Nat.{le_antisymm}
use native.Mathlib.Omega.{arith}
use lib.ListN.{length}
use lib.Ieee.{Float, binary64, add, lt}
use Rattle.num_float.specs.Sign.{NonNeg}
use Rattle.math.specs.declared.Vec3.{Vec3}
use Rattle.list_groups.specs.Groups.{joined}
use Rattle.list_groups.proofs.Flat.{joined_none, joined_suc}
use Rattle.file_field.specs.Field.{vec_at_of}
use Rattle.file_part.specs.Part.{Part, part_of}
use Rattle.file_part.proofs.PartLaws.{part_vertices, part_vertex}
use Rattle.file_ok.specs.Work.{Readable}
use Rattle.file_ok.proofs.ReadableLaws.{readable_vertex_room}
use Rattle.solid_faces.specs.Faces.{faces_of, face_number}
use Rattle.wall_ray.specs.Strike.{e_9}
use Rattle.round_all.specs.declared.round.Round.{Round}
use Rattle.round_all.specs.Round.{round_of}
use Rattle.measure_sizes.specs.Reading.{ReadingBounds}
use Rattle.sheet_bends.specs.Bends.{outside_of, is_bend}
use Rattle.std.specs.Prelude.{Some, None}
use Rattle.sheet_bends.specs.Kept.{bend_of, bend_cell}
use Rattle.fault_row.specs.declared.flaw.Flaw.{Flaw}
use Rattle.fault_row.specs.declared.flaw.Flaw.TheVariants.{ShortFlange}
use Rattle.fault_row.specs.Row.{RowPut}
use Rattle.fault_row.specs.Flaw.{row_of}
use Rattle.fault_row.specs.Flaws.{FlawsPut}
use Rattle.fault_row.proofs.FlawLaws.{flaws_none, flaws_one, flaws_then, flaws_same}
use Rattle.fault_text.specs.Good.{Good}
use Rattle.rule_flanges.specs.declared.legs.Leg.{Leg}
use Rattle.rule_flanges.specs.Flanges.{legs_of, taken_from, flanges_of, reach_to, reach_of, min_flange, flange_flaw, flange_flaws, bend_flanges, short_flanges}
use Rattle.rule_flanges.specs.Work.{leg_at, legs_in, LegThere, LegsThere, LegsTaken, FlangePut}
use Rattle.sheet_bends.proofs.BendLaws.{no_bend, some_bend, bend_is}
use Rattle.rule_flanges.proofs.LegLaws.{legs_none, legs_more}
use Rattle.rule_flanges.proofs.SizeLaws.{reach_nonneg, reach_accepted, least_accepted}

-- ---- how far a leg reaches
pub line_room : (s : List ℕ) (leg : Leg) → Readable s → LegThere (part_of s) leg → 24 * leg.line + 24 ≤ length s
line_room s leg readable is = readable_vertex_room s readable leg.line (omega (arith, is.line, part_vertices s))

pub reach_is : (s : List ℕ) (leg : Leg) (first : ℕ) (round : Round) (v : Vec3) (r : Float) → face_number (part_of s) first ≡ leg.face → round ≡ round_of (part_of s) leg.bend →
    v ≡ vec_at_of s (24 * leg.line) → r ≡ reach_to (part_of s) (face_number (part_of s) first) round.axis v (part_of s).polygons → r ≡ reach_of (part_of s) leg
unfolding reach_of
reach_is s leg first round v r number is at h =
    let t = part_of s in
    h ∙ ap (λ (k : ℕ). reach_to t k round.axis v t.polygons) number ∙ ap (λ (x : Round). reach_to t leg.face x.axis v t.polygons) is
    ∙ ap (λ (x : Vec3). reach_to t leg.face (round_of t leg.bend).axis x t.polygons) (at ∙ sym (part_vertex s leg.line))

-- ---- one leg
module _ (bend : ℕ) (leg : Leg) (reach thick : Float) where
  long_enough : (t : Part) → reach ≡ reach_of t leg → lt (add binary64 reach e_9) (min_flange thick) ≡ false → [] ≡ flange_flaw t thick bend leg
  unfolding flange_flaw
  long_enough t e h = rw (← e, h)

  too_short : (t : Part) → reach ≡ reach_of t leg → lt (add binary64 reach e_9) (min_flange thick) ≡ true →
      ShortFlange leg.face bend reach (min_flange thick) ∷ [] ≡ flange_flaw t thick bend leg
  unfolding flange_flaw
  too_short t e h = rw (← e, h)

  pub flange_none : {from : ℕ} {cells : List ℕ} {numbers : List Float} → lt (add binary64 reach e_9) (min_flange thick) ≡ false → FlangePut bend leg reach thick from cells cells numbers numbers from
  flange_none {from} {cells} {numbers} h = record { few = omega arith; put = λ t e b lb lf. flaws_same (long_enough t e h) (flaws_none from cells numbers) }

  pub flange_one : {from r : ℕ} {cells cells' : List ℕ} {numbers numbers' : List Float} → lt (add binary64 reach e_9) (min_flange thick) ≡ true →
      RowPut from (row_of (ShortFlange leg.face bend reach (min_flange thick))) cells cells' numbers numbers' r → FlangePut bend leg reach thick from cells cells' numbers numbers' r
  unfolding Good
  flange_one h p =
      record {
        few = omega (arith, p.count);
        put = λ t e b lb lf.
            flaws_same (too_short t e h)
            (flaws_one (ShortFlange leg.face bend reach (min_flange thick)) p
            (lf, lb, reach_accepted thick b reach (subst (λ (x : Float). NonNeg x) (sym e) (reach_nonneg t leg)) h, least_accepted thick b));
      }

-- ---- the legs of a bend
flanges_last : (t : Part) (thick : Float) (f : ℕ) (legs : List Leg) (leg : Leg) → flange_flaws t thick f (legs ++ (leg ∷ [])) ≡ flange_flaws t thick f legs ++ flange_flaw t thick f leg
unfolding flange_flaws
flanges_last t thick f [] leg = append-nil (flange_flaw t thick f leg)
flanges_last t thick f (m ∷ legs) leg =
    ap (λ (x : List Flaw). flange_flaw t thick f m ++ x) (flanges_last t thick f legs leg)
    ∙ sym (append_assoc (flange_flaw t thick f m) (flange_flaws t thick f legs) (flange_flaw t thick f leg))

-- the faults of the first i legs are put
abbrev pub LegsPut : Part → Float → ℕ → List ℕ → ℕ → ℕ → List ℕ → List ℕ → List Float → List Float → ℕ → Type 0
LegsPut t thick f legs i from cells cells' numbers numbers' k = FlawsPut (Good t) from (flange_flaws t thick f (legs_in legs i)) cells cells' numbers numbers' k

module _ (t : Part) (thick : Float) (f : ℕ) (legs : List ℕ) where
  pub legs_put_none : (from : ℕ) (cells : List ℕ) (numbers : List Float) → LegsPut t thick f legs 0 from cells cells numbers numbers from
  unfolding flange_flaws legs_in
  legs_put_none from cells numbers = flaws_none from cells numbers

  pub legs_put_more : (n i : ℕ) (leg : Leg) (reach : Float) → LegsThere t legs n → i < n → leg ≡ leg_at legs i → reach ≡ reach_of t leg → ReadingBounds thick → f < faces_of t →
      {from k r : ℕ} {c c' c'' : List ℕ} {m m' m'' : List Float} → LegsPut t thick f legs i from c c' m m' k → FlangePut f leg reach thick k c' c'' m' m'' r →
      LegsPut t thick f legs (i + 1) from c c'' m m'' r
  legs_put_more n i leg reach there l e er b lf p q =
      let face : leg.face < faces_of t = subst (λ (x : Leg). x.face < faces_of t) (sym e) (there.each i l).face in
      let last = flaws_same (ap (flange_flaw t thick f) e) (q.put t er b lf face) in
      flaws_same (sym (flanges_last t thick f (legs_in legs i) (leg_at legs i)) ∙ ap (flange_flaws t thick f) (sym (legs_more legs i))) (flaws_then p last)

  pub legs_put_all : (n i : ℕ) → i ≤ n → n ≤ i → {from k : ℕ} {c c' : List ℕ} {m m' : List Float} → LegsPut t thick f legs i from c c' m m' k → LegsPut t thick f legs n from c c' m m' k
  legs_put_all n i l g p = flaws_same (ap (λ (k : ℕ). flange_flaws t thick f (legs_in legs k)) (le_antisymm l g)) p

-- ---- the bends of a sheet: the faults of the faces below f are put
abbrev pub BendsPut : Part → Float → ℕ → ℕ → List ℕ → List ℕ → List Float → List Float → ℕ → Type 0
BendsPut t thick f from cells cells' numbers numbers' k = FlawsPut (Good t) from (joined (bend_flanges t thick) f) cells cells' numbers numbers' k

module _ (t : Part) (thick : Float) where
  pub bends_none : (from : ℕ) (cells : List ℕ) (numbers : List Float) → BendsPut t thick 0 from cells cells numbers numbers from
  bends_none from cells numbers = flaws_same (sym (joined_none (bend_flanges t thick))) (flaws_none from cells numbers)

  bends_suc : (f : ℕ) → joined (bend_flanges t thick) (f + 1) ≡ joined (bend_flanges t thick) f ++ bend_flanges t thick f
  bends_suc f = ap (joined (bend_flanges t thick)) (add-one f) ∙ joined_suc (bend_flanges t thick) f

  not_bent : (f : ℕ) → is_bend t thick f ≡ false → bend_flanges t thick f ≡ []
  unfolding bend_flanges
  not_bent f e = rw e

  a_bend : (f : ℕ) → is_bend t thick f ≡ true → bend_flanges t thick f ≡ flange_flaws t thick f (flanges_of t thick f)
  unfolding bend_flanges
  a_bend f e = rw e

  -- a face that is the inside of no bend
  pub bends_pass : (f : ℕ) → None ≡ bend_of t thick f → {from k : ℕ} {c c' : List ℕ} {m m' : List Float} → BendsPut t thick f from c c' m m' k →
      BendsPut t thick (f + 1) from c c' m m' k
  bends_pass f e p =
      let none = not_bent f (no_bend t thick f e) in
      let all = joined (bend_flanges t thick) f in
      flaws_same (sym (append-nil all) ∙ ap (λ (l : List Flaw). all ++ l) (sym none) ∙ sym (bends_suc f)) p

  -- and one that is
  taken_flanges : (f most r : ℕ) (legs legs' : List ℕ) → LegsTaken t (legs_of t thick f) most 0 legs legs' r → legs_in legs' r ≡ flanges_of t thick f
  unfolding flanges_of
  taken_flanges f most r legs legs' p = p.taken ∙ ap (λ (l : List Leg). taken_from t l (legs_of t thick f)) (legs_none legs)

  pub bends_next : (f g : ℕ) → Some g ≡ bend_of t thick f → (most n : ℕ) (legs legs' : List ℕ) → LegsTaken t (legs_of t thick f) most 0 legs legs' n →
      {from k r : ℕ} {c c' c'' : List ℕ} {m m' m'' : List Float} → BendsPut t thick f from c c' m m' k → LegsPut t thick f legs' n k c' c'' m' m'' r →
      BendsPut t thick (f + 1) from c c'' m m'' r
  bends_next f g e most n legs legs' p before q =
      let is = (some_bend t thick f g e).0 in
      let last = flaws_same (ap (flange_flaws t thick f) (taken_flanges f most n legs legs' p) ∙ sym (a_bend f is)) q in
      flaws_same (sym (bends_suc f)) (flaws_then before last)

  -- in the words of `flanges`
  pub bend_there : (f x : ℕ) → x ≡ bend_cell t thick f → (x ≡ 0 → ⊥) → (is_bend t thick f ≡ true) × (x - 1 ≡ outside_of t thick f)
  bend_there f x e some =
      let is = bend_is t thick f x e some in
      (is.0, omega (arith, is.1))

  pub bends_all : (n f : ℕ) → n ≡ faces_of t → f ≤ n → n ≤ f → {from k : ℕ} {c c' : List ℕ} {m m' : List Float} → BendsPut t thick f from c c' m m' k →
      FlawsPut (Good t) from (short_flanges t thick) c c' m m' k
  unfolding short_flanges
  bends_all n f e l g p = flaws_same (ap (joined (bend_flanges t thick)) (le_antisymm l g ∙ e)) p
