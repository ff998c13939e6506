-- The rules on one hole, and the loop over the faces.
use mathlib.Core.Path.{◌≡◌, refl, sym, ap, ap₂, ◌∙◌, subst}
use Rattle.std.proofs.Common.{Option, Some, None}
use mathlib.Core.Bool.{Bool, true, false, ◌&&◌, cond}
use mathlib.Core.List.{List, [], ◌∷◌, ◌++◌, append-nil}
use Prim.Native.Nat.{ℕ, ◌+◌, ◌*◌, ◌^◌, ◌≤◌, ◌<◌}
use native.Mathlib.Numerals.{add-one}
use native.Mathlib.Omega.{arith}
use borrow.Author.Tests.{eq-eqb, ne_eqb}
use lib.Dec.{lit<}
use lib.ListN.{length, get_or}
use lib.Ieee.{Float, binary64, add, lt}
use Rattle.num_float.specs.Sign.{NonNeg}
use Rattle.num_float.specs.Within.{Within}
use Rattle.num_real.specs.Select.{max_of}
use Rattle.num_text.specs.Decimal.{accepted}
use Rattle.num_text.proofs.NeverRefused.{accepted_at}
use Rattle.math.specs.Vector.{zero}
use Rattle.list_groups.specs.Groups.{joined}
use Rattle.list_groups.proofs.Flat.{joined_suc, joined_none}
use Rattle.file_part.specs.Part.{Part, part_of}
use Rattle.solid_faces.specs.Faces.{faces_of}
use Rattle.scratch.specs.declared.regions.Regions.{Regions}
use Rattle.wall_ray.specs.Strike.{e_9}
use Rattle.round_all.specs.declared.round.Round.{Round}
use Rattle.round_all.specs.Round.{is_round, is_hole, round_of}
use Rattle.round_all.specs.Kept.{round_kind}
use Rattle.round_all.proofs.PutLaws.{face_low}
use Rattle.round_all.proofs.RoundLaws.{kind_at, kind_round, kind_hole}
use Rattle.measure_sizes.specs.Reading.{ReadingBounds}
use Rattle.measure_sizes.specs.Round.{diameter_of, RoundBounds}
use Rattle.measure_sizes.proofs.Rounds.{round_bounds}
use Rattle.measure_sizes.proofs.Limits.{gap_accepted}
use Rattle.sheet_bends.specs.declared.Sheet.{Sheet}
use Rattle.sheet_bends.specs.Bends.{is_bend_face}
use Rattle.sheet_bends.specs.Work.{SheetStands}
use Rattle.fault_row.specs.declared.flaw.Flaw.{Flaw}
use Rattle.fault_row.specs.declared.flaw.Flaw.TheVariants.{SheetSmallHole}
use Rattle.fault_row.specs.Row.{RowPut}
use Rattle.fault_row.specs.Flaw.{row_of}
use Rattle.fault_row.specs.Flaws.{FlawsPut}
use Rattle.fault_row.proofs.RowLaws.{row_put_same}
use Rattle.fault_row.proofs.FlawLaws.{flaws_none, flaws_one, flaws_then, flaws_same}
use Rattle.fault_text.specs.Good.{Good}
use Rattle.rule_holes.specs.declared.nearest.Gap.{Gap}
use Rattle.rule_holes.specs.declared.holes.Limits.{Limits}
use Rattle.rule_holes.specs.Nearest.{nearest_of}
use Rattle.rule_holes.specs.Holes.{min_hole_of, small_hole, need_of, too_close, gap_flaw, close_flaw, hole_flaws, sheet_holes}
use Rattle.rule_holes.specs.Work.{LimitsOf, SmallPut, ClosePut, HolesTo}
use Rattle.rule_holes.proofs.LimitLaws.{least_accepted, need_is, need_within, need_nonneg}

-- ---- a small hole
module _ (hole : Round) (least : Float) where
  abbrev d : Float
  d = diameter_of hole

  module _ (t : Part) (thick : Float) (e : least ≡ min_hole_of t thick) (is : hole ≡ round_of t hole.face) where
    small_is : (b : Bool) → lt (add binary64 d e_9) least ≡ b → cond b (SheetSmallHole hole.face d least ∷ []) [] ≡ small_hole t thick hole.face
    unfolding small_hole
    small_is b h =
        sym (ap (λ (c : Bool). cond c (SheetSmallHole hole.face d least ∷ []) []) h)
        ∙ ap₂ (λ (r : Round) (x : Float). cond (lt (add binary64 (diameter_of r) e_9) x) (SheetSmallHole hole.face (diameter_of r) x ∷ []) []) is e

  pub small_none : {from : ℕ} {cells : List ℕ} {numbers : List Float} → lt (add binary64 d e_9) least ≡ false → SmallPut hole least from cells cells numbers numbers from
  small_none {from} {cells} {numbers} h =
      record { few = omega arith; put = λ t thick e is b w low. flaws_same (small_is t thick e is false h) (flaws_none from cells numbers) }

  pub small_one : {from r : ℕ} {cells cells' : List ℕ} {numbers numbers' : List Float} → lt (add binary64 d e_9) least ≡ true →
      RowPut from (row_of (SheetSmallHole hole.face d least)) cells cells' numbers numbers' r → SmallPut hole least from cells cells' numbers numbers' r
  unfolding Good
  small_one h p =
      record {
        few = omega (arith, p.count);
        put = λ t thick e is b w low.
            flaws_same (small_is t thick e is true h)
            (flaws_one (SheetSmallHole hole.face d least) p
            (low, accepted_at d 20000 2 w.diameter_nonneg w.diameter_within (lit< tt) (omega arith), subst (λ (x : Float). accepted x 2 ≡ true) (sym e) (least_accepted thick b t)));
      }

-- ---- a hole that is too close
close_good : (t : Part) (near : Bool) (f g : ℕ) (x need : Float) → f < faces_of t → g < faces_of t → accepted x 2 ≡ true → accepted need 2 ≡ true → Good t (too_close near f g x need)
unfolding too_close Good
close_good t true f g x need lf lg ax an = (lf, lg, ax, an)
close_good t false f g x need lf lg ax an = (lf, lg, ax, an)

module _ (near : Bool) (need : Float) (h : ℕ) (n : Gap) where
  abbrev gap : Float
  gap = max_of n.gap zero

  close_is : (b : Bool) → lt (add binary64 n.gap e_9) need ≡ b → cond b (too_close near h n.other gap need ∷ []) [] ≡ gap_flaw near need h n
  unfolding gap_flaw
  close_is b e = sym (ap (λ (c : Bool). cond c (too_close near h n.other gap need ∷ []) []) e)

  pub close_none : {from : ℕ} {cells : List ℕ} {numbers : List Float} → lt (add binary64 n.gap e_9) need ≡ false → ClosePut near need h n from cells cells numbers numbers from
  close_none {from} {cells} {numbers} e =
      record { few = omega arith; put = λ t w lh lo p. flaws_same (close_is false e) (flaws_none from cells numbers) }

  pub close_one : (flaw : Flaw) (x : Float) {from r : ℕ} {cells cells' : List ℕ} {numbers numbers' : List Float} → lt (add binary64 n.gap e_9) need ≡ true → x ≡ gap →
      flaw ≡ too_close near h n.other x need → RowPut from (row_of flaw) cells cells' numbers numbers' r → ClosePut near need h n from cells cells' numbers numbers' r
  close_one flaw x e ex is p =
      let found : flaw ≡ too_close near h n.other gap need = is ∙ ap (λ (y : Float). too_close near h n.other y need) ex in
      record {
        few = omega (arith, p.count);
        put = λ t w lh lo nonneg.
            flaws_same (close_is true e)
            (flaws_one (too_close near h n.other gap need) (row_put_same (ap row_of found) p)
            (close_good t near h n.other gap need lh lo (gap_accepted n.gap need (2 ^ 20) e w (lit< tt)) (accepted_at need (2 ^ 20) 2 nonneg w (lit< tt) (omega arith))));
      }

-- ---- both rules on one hole
module _ (s : List ℕ) (sheet : Sheet) (words : List ℕ) (reals : List Float) (stands : SheetStands s sheet words reals) (b : ReadingBounds sheet.thickness) (limits : Limits)
    (l : LimitsOf (part_of s) sheet.thickness limits) (hole : Round) (low : hole.face < faces_of (part_of s)) (is : hole ≡ round_of (part_of s) hole.face)
    (round : is_round (part_of s) hole.face ≡ true) (whole : is_hole (part_of s) hole.face ≡ true) where
  abbrev t : Part
  t = part_of s

  abbrev thick : Float
  thick = sheet.thickness

  abbrev f : ℕ
  f = hole.face

  abbrev Puts : ℕ → List Flaw → List ℕ → List ℕ → List Float → List Float → ℕ → Type 0
  Puts from = FlawsPut (Good t) from

  small_put : {from k : ℕ} {c c' : List ℕ} {n n' : List Float} → SmallPut hole limits.hole from c c' n n' k → Puts from (small_hole t thick f) c c' n n' k
  small_put p = p.put t thick l.hole is b (subst RoundBounds (sym is) (round_bounds s stands.ordered.standing.placed.checked f low round)) low

  module _ (near : Option Gap) (en : near ≡ nearest_of t hole) where
    both : small_hole t thick f ++ close_flaw t thick f near ≡ hole_flaws t thick f
    unfolding hole_flaws
    both =
        ap (λ (x : Option Gap). small_hole t thick f ++ close_flaw t thick f x) (en ∙ ap (nearest_of t) is)
        ∙ sym (ap₂ (λ (x y : Bool). cond (x && y) (small_hole t thick f ++ close_flaw t thick f (nearest_of t (round_of t f))) []) round whole)

    -- nothing is near
    pub hole_alone : {from k : ℕ} {c c' : List ℕ} {n n' : List Float} → near ≡ None → SmallPut hole limits.hole from c c' n n' k →
        Puts from (hole_flaws t thick f) c c' n n' k
    unfolding close_flaw
    hole_alone e p =
        let none : close_flaw t thick f near ≡ [] = ap (close_flaw t thick f) e in
        flaws_same (sym (append-nil (small_hole t thick f)) ∙ ap (λ (x : List Flaw). small_hole t thick f ++ x) (sym none) ∙ both) (small_put p)

    -- something is
    module _ (n : Gap) (found : near ≡ Some n) (bend : Bool) (eb : bend ≡ is_bend_face t thick n.other) (need : Float) (ed : need ≡ cond bend limits.bend limits.edge)
        (there : n.other < faces_of t) where
      need_of_lem : need ≡ need_of t thick bend
      need_of_lem = need_is t thick limits bend need l ed

      close : gap_flaw bend need f n ≡ close_flaw t thick f near
      unfolding close_flaw
      close =
          ap (λ (x : Float). gap_flaw bend x f n) need_of_lem
          ∙ ap (λ (c : Bool). gap_flaw c (need_of t thick c) f n) eb
          ∙ sym (ap (close_flaw t thick f) found)

      pub hole_close : {from k r : ℕ} {c c' c'' : List ℕ} {x x' x'' : List Float} → SmallPut hole limits.hole from c c' x x' k → ClosePut bend need f n k c' c'' x' x'' r →
          Puts from (hole_flaws t thick f) c c'' x x'' r
      hole_close p q =
          let checked = stands.ordered.standing.placed.checked in
          let w : Within need (2 ^ 20) = subst (λ (x : Float). Within x (2 ^ 20)) (sym need_of_lem) (need_within thick b s checked bend) in
          let nonneg : NonNeg need = subst NonNeg (sym need_of_lem) (need_nonneg thick b s checked bend) in
          flaws_same (ap (λ (x : List Flaw). small_hole t thick f ++ x) close ∙ both) (flaws_then (small_put p) (q.put t w low there nonneg))

-- ---- the loop over the faces
pub holes_start : (t : Part) (thick : Float) (from : ℕ) (cells : List ℕ) (numbers : List Float) → HolesTo t thick 0 from cells cells numbers numbers from
holes_start t thick from cells numbers =
    record { few = omega arith; put = flaws_same (sym (joined_none (hole_flaws t thick))) (flaws_none from cells numbers) }

pub holes_end : (t : Part) (thick : Float) {f from r : ℕ} {cells cells' : List ℕ} {numbers numbers' : List Float} → f ≡ faces_of t → HolesTo t thick f from cells cells' numbers numbers' r →
    FlawsPut (Good t) from (sheet_holes t thick) cells cells' numbers numbers' r
unfolding sheet_holes
holes_end t thick e p = flaws_same (ap (joined (hole_flaws t thick)) e) p.put

-- which faces are holes
kind_none : (t : Part) (f : ℕ) → (round_kind t f ≡ 3 → ⊥) → (is_round t f && is_hole t f) ≡ false
kind_none t f h = go (is_round t f) refl
  where
    go : (b : Bool) → is_round t f ≡ b → (b && is_hole t f) ≡ false
    go true e = sym (kind_hole t f e) ∙ ne_eqb (round_kind t f) 3 h
    go false e = refl

flaws_of_none : (t : Part) (thick : Float) (f : ℕ) → (is_round t f && is_hole t f) ≡ false → hole_flaws t thick f ≡ []
unfolding hole_flaws
flaws_of_none t thick f e = ap (λ (c : Bool). cond c (small_hole t thick f ++ close_flaw t thick f (nearest_of t (round_of t f))) []) e

round_face : (t : Part) (f : ℕ) → (round_of t f).face ≡ f
unfolding round_of
round_face t f = refl

module _ (s : List ℕ) (sheet : Sheet) (words : List ℕ) (reals : List Float) (stands : SheetStands s sheet words reals) (f : ℕ) (inside : f < sheet.edges.faces) where
  abbrev at : Regions
  at = sheet.edges.at

  pub low_face : f < faces_of (part_of s)
  low_face = omega (arith, inside, stands.counted.faces)

  below : (f < at.polygons) × (f < 1024)
  below = face_low s at f stands.ordered.standing.placed low_face

  pub kind_room : at.kinds + f < length words
  kind_room = omega (arith, below, stands.ordered.standing.placed.laid, stands.ordered.standing.words_room)

  small : at.kinds + f < 1048576
  small = omega (arith, below, stands.ordered.standing.placed.laid)

  pub kind_fits : at.kinds + f < 2 ^ 64
  kind_fits = omega (arith, small)

  pub kind_bytes : (at.kinds + f) * 4 < 2 ^ 64
  kind_bytes = omega (arith, small)

  kind_is : get_or words (at.kinds + f) 0 ≡ round_kind (part_of s) f
  kind_is = kind_at (part_of s) at words reals f stands.ordered.standing.placed.laid stands.rounds low_face below.0

  module _ (k : get_or words (at.kinds + f) 0 ≡ 3) where
    pub hole_round : is_round (part_of s) f ≡ true
    hole_round = kind_round (part_of s) f (λ e. omega (arith, e, kind_is, k))

    hole_whole : is_hole (part_of s) f ≡ true
    hole_whole = sym (kind_hole (part_of s) f hole_round) ∙ eq-eqb (round_kind (part_of s) f) 3 (sym kind_is ∙ k)

    -- in the words of `put_hole`
    pub hole_there : (hole : Round) → hole ≡ round_of (part_of s) f →
        (hole.face < faces_of (part_of s)) × (hole ≡ round_of (part_of s) hole.face) × (is_round (part_of s) hole.face ≡ true) × (is_hole (part_of s) hole.face ≡ true)
    hole_there hole e =
        let face : f ≡ hole.face = sym (ap (λ (x : Round). x.face) e ∙ round_face (part_of s) f) in (
          subst (λ (g : ℕ). g < faces_of (part_of s)) face low_face,
          e ∙ ap (round_of (part_of s)) face,
          subst (λ (g : ℕ). is_round (part_of s) g ≡ true) face hole_round,
          subst (λ (g : ℕ). is_hole (part_of s) g ≡ true) face hole_whole,
        )

    pub holes_next : (thick : Float) (hole : Round) {from k r : ℕ} {c c' c'' : List ℕ} {n n' n'' : List Float} → hole ≡ round_of (part_of s) f →
        HolesTo (part_of s) thick f from c c' n n' k → FlawsPut (Good (part_of s)) k (hole_flaws (part_of s) thick hole.face) c' c'' n' n'' r →
        r ≤ k + 2 → HolesTo (part_of s) thick (f + 1) from c c'' n n'' r
    holes_next thick hole e p q few =
        let face : hole.face ≡ f = ap (λ (x : Round). x.face) e ∙ round_face (part_of s) f in
        record {
          few = omega (arith, few, p.few);
          put = flaws_same (sym (joined_suc (hole_flaws (part_of s) thick) f) ∙ ap (joined (hole_flaws (part_of s) thick)) (sym (add-one f)))
              (flaws_then p.put (flaws_same (ap (hole_flaws (part_of s) thick) face) q));
        }

  -- a face that is none
  pub holes_pass : (thick : Float) {from k : ℕ} {c c' : List ℕ} {n n' : List Float} → (get_or words (at.kinds + f) 0 ≡ 3 → ⊥) →
      HolesTo (part_of s) thick f from c c' n n' k → HolesTo (part_of s) thick (f + 1) from c c' n n' k
  holes_pass thick not p =
      let none : hole_flaws (part_of s) thick f ≡ [] = flaws_of_none (part_of s) thick f (kind_none (part_of s) f (λ e. not (kind_is ∙ e))) in
      record {
        few = omega (arith, p.few);
        put = flaws_same
            (sym (append-nil (joined (hole_flaws (part_of s) thick) f)) ∙ ap (λ (x : List Flaw). joined (hole_flaws (part_of s) thick) f ++ x) (sym none)
            ∙ sym (joined_suc (hole_flaws (part_of s) thick) f) ∙ ap (joined (hole_flaws (part_of s) thick)) (sym (add-one f)))
            p.put;
      }
