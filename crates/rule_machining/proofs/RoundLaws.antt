-- The rules on one round: none, one fault, one rule after another.
use mathlib.Core.Path.{◌≡◌, refl, sym, ap, ◌∙◌, subst}
use mathlib.Core.Bool.{Bool, true, false, cond}
use mathlib.Core.List.{List, [], ◌∷◌, ◌++◌, append-nil, append_assoc}
use Prim.Native.Nat.{ℕ, ◌+◌, ◌*◌, ◌≤◌, ◌<◌, ◌^◌}
use native.Mathlib.Omega.{arith}
use lib.Dec.{lit<}
use lib.ListN.{length, get_or}
use lib.Ieee.{Float, lt}
use Rattle.num_text.specs.Decimal.{accepted}
use Rattle.num_text.proofs.NeverRefused.{accepted_at}
use Rattle.file_part.specs.Part.{Part, part_of}
use Rattle.solid_faces.specs.Faces.{faces_of}
use Rattle.scratch.specs.declared.regions.Regions.{Regions}
use Rattle.scratch.specs.Standing.{Standing}
use Rattle.round_all.specs.declared.round.Round.{Round}
use Rattle.round_all.specs.Round.{is_round, is_concave, is_hole, round_of, rounds_to, rounds_of}
use Rattle.round_all.specs.Kept.{round_kind, Rounds}
use Rattle.round_all.proofs.PutLaws.{face_low}
use Rattle.round_all.proofs.RoundLaws.{kind_at, kind_round, rounds_more, rounds_skip}
use Rattle.wall_pairs.specs.declared.Counts.{Counts}
use Rattle.wall_pairs.specs.Work.{Counted}
use Rattle.measure_sizes.specs.Round.{diameter_of, ratio_of, RoundBounds}
use Rattle.measure_sizes.proofs.Rounds.{round_bounds}
use Rattle.fault_row.specs.declared.flaw.Flaw.{Flaw}
use Rattle.fault_row.specs.declared.flaw.Flaw.TheVariants.{SmallHole, DeepHoleMax, DeepHoleStandard, TightInsideRadius, DeepInsideCorner}
use Rattle.fault_row.specs.Row.{RowPut}
use Rattle.fault_row.specs.Flaw.{row_of}
use Rattle.fault_row.specs.Flaws.{FlawsPut}
use Rattle.fault_row.proofs.FlawLaws.{flaws_none, flaws_one, flaws_then, flaws_same}
use Rattle.rule_corners.specs.fault_text.specs.Machining.{min_drill, min_mill_radius}
use Rattle.rule_corners.specs.fault_text.specs.Good.{Good}
use Rattle.rule_machining.specs.Machining.{standard_reach, max_reach, small_holes, deep_holes, tight_radii, deep_corners, hole_flaws, inside_flaws, round_flaws, flaws_of_rounds, rounds_flaws}
use Rattle.rule_machining.specs.Work.{RoundPut}

-- ---- what a round's messages print is accepted
module _ (r : Round) (b : RoundBounds r) where
  radius_accepted : accepted r.radius 2 ≡ true
  radius_accepted = accepted_at r.radius 10000 2 b.radius_nonneg b.radius_within (lit< tt) (omega arith)

  diameter_accepted : accepted (diameter_of r) 2 ≡ true
  diameter_accepted = accepted_at (diameter_of r) 20000 2 b.diameter_nonneg b.diameter_within (lit< tt) (omega arith)

  length_accepted : accepted r.length 2 ≡ true
  length_accepted = accepted_at r.length (2 ^ 17) 2 b.length_nonneg b.length_within (lit< tt) (omega arith)

  ratio_accepted : accepted (ratio_of r) 1 ≡ true
  ratio_accepted = accepted_at (ratio_of r) (2 ^ 27) 1 b.ratio_nonneg b.ratio_within (lit< tt) (omega arith)

-- ---- no flaw
module _ {round : Round} {cells : List ℕ} {numbers : List Float} {from : ℕ} where
  none_put : (rule : Round → List Flaw) (most : ℕ) → rule round ≡ [] → RoundPut rule most round from cells cells numbers numbers from
  none_put rule most e = record { few = omega arith; put = λ t low b. flaws_same (sym e) (flaws_none from cells numbers) }

  pub small_hole_none : lt (diameter_of round) min_drill ≡ false → RoundPut small_holes 1 round from cells cells numbers numbers from
  unfolding small_holes
  small_hole_none e = none_put small_holes 1 (rw e)

  pub deep_hole_none : lt max_reach (ratio_of round) ≡ false → lt standard_reach (ratio_of round) ≡ false → RoundPut deep_holes 1 round from cells cells numbers numbers from
  unfolding deep_holes
  deep_hole_none e h = none_put deep_holes 1 (rw (e, h))

  pub tight_radius_none : lt round.radius min_mill_radius ≡ false → RoundPut tight_radii 1 round from cells cells numbers numbers from
  unfolding tight_radii
  tight_radius_none e = none_put tight_radii 1 (rw e)

  pub deep_corner_none : lt standard_reach (ratio_of round) ≡ false → RoundPut deep_corners 1 round from cells cells numbers numbers from
  unfolding deep_corners
  deep_corner_none e = none_put deep_corners 1 (rw e)

  pub convex_none : round.concave ≡ false → RoundPut round_flaws 2 round from cells cells numbers numbers from
  unfolding round_flaws
  convex_none e = none_put round_flaws 2 (rw e)

-- ---- one flaw, and the rules by what the round is
module _ {round : Round} {cells cells' : List ℕ} {numbers numbers' : List Float} {from r : ℕ} where
  one_put : (rule : Round → List Flaw) (f : Flaw) → rule round ≡ f ∷ [] → RowPut from (row_of f) cells cells' numbers numbers' r →
      ((t : Part) → round.face < faces_of t → RoundBounds round → Good t f) → RoundPut rule 1 round from cells cells' numbers numbers' r
  one_put rule f e p good = record { few = omega (arith, p.count); put = λ t low b. flaws_same (sym e) (flaws_one f p (good t low b)) }

  pub small_hole_one : lt (diameter_of round) min_drill ≡ true → RowPut from (row_of (SmallHole round.face (diameter_of round))) cells cells' numbers numbers' r →
      RoundPut small_holes 1 round from cells cells' numbers numbers' r
  unfolding small_holes Good
  small_hole_one e p = one_put small_holes (SmallHole round.face (diameter_of round)) (rw e) p (λ t low b. (low, diameter_accepted round b))

  pub deep_hole_max_one : lt max_reach (ratio_of round) ≡ true →
      RowPut from (row_of (DeepHoleMax round.face (ratio_of round) (diameter_of round) round.length)) cells cells' numbers numbers' r →
      RoundPut deep_holes 1 round from cells cells' numbers numbers' r
  unfolding deep_holes Good
  deep_hole_max_one e p = one_put deep_holes (DeepHoleMax round.face (ratio_of round) (diameter_of round) round.length) (rw e) p (λ t low b. (low, ratio_accepted round b, diameter_accepted round b, length_accepted round b))

  pub deep_hole_standard_one : lt max_reach (ratio_of round) ≡ false → lt standard_reach (ratio_of round) ≡ true →
      RowPut from (row_of (DeepHoleStandard round.face (ratio_of round))) cells cells' numbers numbers' r → RoundPut deep_holes 1 round from cells cells' numbers numbers' r
  unfolding deep_holes Good
  deep_hole_standard_one e h p = one_put deep_holes (DeepHoleStandard round.face (ratio_of round)) (rw (e, h)) p (λ t low b. (low, ratio_accepted round b))

  pub tight_radius_one : lt round.radius min_mill_radius ≡ true → RowPut from (row_of (TightInsideRadius round.face round.radius)) cells cells' numbers numbers' r →
      RoundPut tight_radii 1 round from cells cells' numbers numbers' r
  unfolding tight_radii Good
  tight_radius_one e p = one_put tight_radii (TightInsideRadius round.face round.radius) (rw e) p (λ t low b. (low, radius_accepted round b))

  pub deep_corner_one : lt standard_reach (ratio_of round) ≡ true →
      RowPut from (row_of (DeepInsideCorner round.face (ratio_of round) round.radius round.length)) cells cells' numbers numbers' r →
      RoundPut deep_corners 1 round from cells cells' numbers numbers' r
  unfolding deep_corners Good
  deep_corner_one e p = one_put deep_corners (DeepInsideCorner round.face (ratio_of round) round.radius round.length) (rw e) p (λ t low b. (low, ratio_accepted round b, radius_accepted round b, length_accepted round b))

  pub hole_put : round.concave ≡ true → round.hole ≡ true → RoundPut hole_flaws 2 round from cells cells' numbers numbers' r →
      RoundPut round_flaws 2 round from cells cells' numbers numbers' r
  unfolding round_flaws
  hole_put e h p = record { few = p.few; put = λ t low b. flaws_same (rw (e, h)) (p.put t low b) }

  pub inside_put : round.concave ≡ true → round.hole ≡ false → RoundPut inside_flaws 2 round from cells cells' numbers numbers' r →
      RoundPut round_flaws 2 round from cells cells' numbers numbers' r
  unfolding round_flaws
  inside_put e h p = record { few = p.few; put = λ t low b. flaws_same (rw (e, h)) (p.put t low b) }

-- ---- one rule after another
module _ {round : Round} {c c' c'' : List ℕ} {n n' n'' : List Float} {from k r : ℕ} where
  pub hole_faults : RoundPut small_holes 1 round from c c' n n' k → RoundPut deep_holes 1 round k c' c'' n' n'' r → RoundPut hole_flaws 2 round from c c'' n n'' r
  unfolding hole_flaws
  hole_faults p q = record { few = omega (arith, p.few, q.few); put = λ t low b. flaws_then (p.put t low b) (q.put t low b) }

  pub inside_faults : RoundPut tight_radii 1 round from c c' n n' k → RoundPut deep_corners 1 round k c' c'' n' n'' r → RoundPut inside_flaws 2 round from c c'' n n'' r
  unfolding inside_flaws
  inside_faults p q = record { few = omega (arith, p.few, q.few); put = λ t low b. flaws_then (p.put t low b) (q.put t low b) }

-- ---- one round more
pub rounds_then : (rs : List Round) (r : Round) → flaws_of_rounds (rs ++ (r ∷ [])) ≡ flaws_of_rounds rs ++ round_flaws r
unfolding flaws_of_rounds
rounds_then [] r = append-nil (round_flaws r)
rounds_then (q ∷ rs) r = ap (λ (x : List Flaw). round_flaws q ++ x) (rounds_then rs r) ∙ sym (append_assoc (round_flaws q) (flaws_of_rounds rs) (round_flaws r))

-- ---- the loop over the faces
kind_none : (t : Part) (f : ℕ) → round_kind t f ≡ 0 → is_round t f ≡ false
unfolding round_kind
kind_none t f e = go (is_round t f) (is_concave t f) (is_hole t f) e
  where
    go : (a b c : Bool) → ◌≡◌ {A = ℕ} (cond a (cond b (cond c 3 2) 1) 0) 0 → a ≡ false
    go true true true e = absurd (omega (arith, e))
    go true true false e = absurd (omega (arith, e))
    go true false c e = absurd (omega (arith, e))
    go false b c e = refl

round_face : (t : Part) (f : ℕ) → (round_of t f).face ≡ f
unfolding round_of
round_face t f = refl

-- the faults of the faces below f are put
abbrev pub RoundsPut : Part → ℕ → ℕ → List ℕ → List ℕ → List Float → List Float → ℕ → Type 0
RoundsPut t f from cells cells' numbers numbers' k = FlawsPut (Good t) from (flaws_of_rounds (rounds_to t f)) cells cells' numbers numbers' k

pub rounds_start : (t : Part) (from : ℕ) (cells : List ℕ) (numbers : List Float) → RoundsPut t 0 from cells cells numbers numbers from
unfolding rounds_to flaws_of_rounds
rounds_start t from cells numbers = flaws_none from cells numbers

pub rounds_end : (t : Part) {f from k : ℕ} {cells cells' : List ℕ} {numbers numbers' : List Float} → f ≡ faces_of t → RoundsPut t f from cells cells' numbers numbers' k →
    FlawsPut (Good t) from (rounds_flaws t) cells cells' numbers numbers' k
unfolding rounds_flaws rounds_of
rounds_end t e p = flaws_same (ap (λ (n : ℕ). flaws_of_rounds (rounds_to t n)) e) p

module _ (s : List ℕ) (at : Regions) (words : List ℕ) (reals : List Float) (counts : Counts) (f : ℕ) (h : Standing s at words reals)
    (kept : Rounds (part_of s) at words reals) (counted : Counted (part_of s) counts) (inside : f < counts.faces) where
  low : f < faces_of (part_of s)
  low = omega (arith, inside, counted.faces)

  below : f < at.polygons
  below = omega (arith, face_low s at f h.placed low)

  pub kind_room : at.kinds + f < length words
  kind_room = omega (arith, below, h.placed.laid, h.words_room)

  kind_small : at.kinds + f < 1048576
  kind_small = omega (arith, below, h.placed.laid)

  pub kind_fits : at.kinds + f < 2 ^ 64
  kind_fits = omega (arith, kind_small)

  pub kind_bytes : (at.kinds + f) * 4 < 2 ^ 64
  kind_bytes = omega (arith, kind_small)

  kind_is : get_or words (at.kinds + f) 0 ≡ round_kind (part_of s) f
  kind_is = kind_at (part_of s) at words reals f h.placed.laid kept low below

  is_round_lem : (get_or words (at.kinds + f) 0 ≡ 0 → ⊥) → is_round (part_of s) f ≡ true
  is_round_lem not = kind_round (part_of s) f (λ e. not (kind_is ∙ e))

  -- in the words of `round_at` and of `put_round`
  pub round_there : (get_or words (at.kinds + f) 0 ≡ 0 → ⊥) →
      Standing s at words reals × (Rounds (part_of s) at words reals × ((f < faces_of (part_of s)) × (is_round (part_of s) f ≡ true)))
  round_there not = (h, (kept, (low, is_round_lem not)))

  pub round_room : {from k : ℕ} (round : Round) → from ≤ 65536 → k ≤ from + 2 * f → round ≡ round_of (part_of s) f → (k + 1 < 4294967296) × (round.face < 4294967296)
  round_room round few most e =
      let small = (face_low s at f h.placed low).1 in
      let face : round.face ≡ f = ap (λ (x : Round). x.face) e ∙ round_face (part_of s) f in
      (omega (arith, few, most, small), omega (arith, face, small))

  -- a face that is no round
  pub rounds_pass : {from k : ℕ} {cells cells' : List ℕ} {numbers numbers' : List Float} → get_or words (at.kinds + f) 0 ≡ 0 →
      RoundsPut (part_of s) f from cells cells' numbers numbers' k → RoundsPut (part_of s) (f + 1) from cells cells' numbers numbers' k
  rounds_pass e p = flaws_same (ap flaws_of_rounds (sym (rounds_skip (part_of s) f (kind_none (part_of s) f (sym kind_is ∙ e))))) p

  -- and one that is
  pub rounds_next : {from k r : ℕ} {c c' c'' : List ℕ} {n n' n'' : List Float} (round : Round) → (get_or words (at.kinds + f) 0 ≡ 0 → ⊥) → round ≡ round_of (part_of s) f →
      RoundsPut (part_of s) f from c c' n n' k → RoundPut round_flaws 2 round k c' c'' n' n'' r → RoundsPut (part_of s) (f + 1) from c c'' n n'' r
  rounds_next {from} {k} {r} {c} {c'} {c''} {n} {n'} {n''} round not e p q =
      let t = part_of s in
      let face : round.face ≡ f = ap (λ (x : Round). x.face) e ∙ round_face t f in
      let b : RoundBounds round = subst RoundBounds (sym e) (round_bounds s h.placed.checked f low (is_round_lem not)) in
      let last = flaws_same (ap round_flaws e) (q.put t (omega (arith, face, low)) b) in
      flaws_same (sym (rounds_then (rounds_to t f) (round_of t f)) ∙ ap flaws_of_rounds (sym (rounds_more t f (is_round_lem not)))) (flaws_then p last)
