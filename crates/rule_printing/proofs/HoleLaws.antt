-- The rule on small holes: none, one fault, one hole after another.
use mathlib.Core.Path.{◌≡◌, refl, sym, ap, ◌∙◌, subst}
use mathlib.Core.Bool.{Bool, true, false, ◌&&◌, cond}
use mathlib.Core.List.{List, [], ◌∷◌, ◌++◌, append-nil}
use Prim.Native.Nat.{ℕ, ◌+◌, ◌*◌, ◌^◌, ◌≤◌, ◌<◌}
use native.Mathlib.Numerals.{add-one}
use native.Mathlib.Omega.{arith}
use borrow.Author.Tests.{eq-eqb, ne_eqb}
use lib.Dec.{lit<}
use lib.ListN.{length, get_or}
use lib.Ieee.{Float, binary64, add, lt}
use Rattle.num_text.proofs.NeverRefused.{accepted_at}
use Rattle.list_groups.specs.Groups.{joined}
use Rattle.list_groups.proofs.Flat.{joined_suc, joined_none}
use Rattle.file_job.specs.declared.Job.{Job}
use Rattle.file_part.specs.Part.{Part, part_of}
use Rattle.solid_faces.specs.Faces.{faces_of}
use Rattle.scratch.specs.declared.regions.Regions.{Regions}
use Rattle.scratch.specs.Standing.{Standing}
use Rattle.wall_ray.specs.Strike.{e_9}
use Rattle.round_all.specs.declared.round.Round.{Round}
use Rattle.round_all.specs.Round.{is_round, is_hole, round_of}
use Rattle.round_all.specs.Kept.{round_kind, Rounds}
use Rattle.round_all.proofs.PutLaws.{face_low}
use Rattle.round_all.proofs.RoundLaws.{kind_at, kind_round, kind_hole}
use Rattle.measure_sizes.specs.Round.{diameter_of, RoundBounds}
use Rattle.measure_sizes.proofs.Rounds.{round_bounds}
use Rattle.fault_row.specs.declared.flaw.Flaw.{Flaw}
use Rattle.fault_row.specs.declared.flaw.Flaw.TheVariants.{PrintSmallHole}
use Rattle.fault_row.specs.Row.{RowPut}
use Rattle.fault_row.specs.Flaw.{row_of}
use Rattle.fault_row.specs.Flaws.{FlawsPut}
use Rattle.fault_row.proofs.FlawLaws.{flaws_none, flaws_one, flaws_then, flaws_same}
use Rattle.print_walls.specs.fault_text.specs.Good.{Good}
use Rattle.print_walls.specs.fault_text.proofs.SettingsLaws.{print_hole_accepted}
use Rattle.rule_printing.specs.Rules.{small_hole, print_holes}
use Rattle.rule_printing.specs.Work.{HolePut}

-- ---- one hole
module _ (hole : Round) (least : Float) where
  abbrev d : Float
  d = diameter_of hole

  flaw_is : (b : Bool) → lt (add binary64 d e_9) least ≡ b →
      cond b (PrintSmallHole hole.face d ∷ []) [] ≡ cond (lt (add binary64 d e_9) least) (PrintSmallHole hole.face d ∷ []) []
  flaw_is b e = sym (ap (λ (c : Bool). cond c (PrintSmallHole hole.face d ∷ []) []) e)

  pub hole_none : {from : ℕ} {cells : List ℕ} {numbers : List Float} → lt (add binary64 d e_9) least ≡ false → HolePut hole least from cells cells numbers numbers from
  hole_none {from} {cells} {numbers} e =
      record { few = omega arith; put = λ s checked is b low. flaws_same (flaw_is false e) (flaws_none from cells numbers) }

  pub hole_one : {from r : ℕ} {cells cells' : List ℕ} {numbers numbers' : List Float} → lt (add binary64 d e_9) least ≡ true →
      RowPut from (row_of (PrintSmallHole hole.face d)) cells cells' numbers numbers' r → HolePut hole least from cells cells' numbers numbers' r
  unfolding Good
  hole_one e p =
      record {
        few = omega (arith, p.count);
        put = λ s checked is b low.
            flaws_same (flaw_is true e)
            (flaws_one (PrintSmallHole hole.face d) p
            (low, accepted_at d 20000 2 b.diameter_nonneg b.diameter_within (lit< tt) (omega arith), print_hole_accepted s checked));
      }

-- ---- one hole after another
-- the faults of the faces below f are put
pub record HolesTo (t : Part) (f from : ℕ) (cells cells' : List ℕ) (numbers numbers' : List Float) (k : ℕ) : Type 0 where
  pub few : k ≤ from + f
  pub put : FlawsPut (Good t) from (joined (small_hole t) f) cells cells' numbers numbers' k

pub holes_start : (t : Part) (from : ℕ) (cells : List ℕ) (numbers : List Float) → HolesTo t 0 from cells cells numbers numbers from
holes_start t from cells numbers = record { few = omega arith; put = flaws_same (sym (joined_none (small_hole t))) (flaws_none from cells numbers) }

pub holes_end : (t : Part) {f from k : ℕ} {cells cells' : List ℕ} {numbers numbers' : List Float} → f ≡ faces_of t → HolesTo t f from cells cells' numbers numbers' k →
    FlawsPut (Good t) from (print_holes t) cells cells' numbers numbers' k
unfolding print_holes
holes_end t e p = flaws_same (ap (joined (small_hole t)) e) p.put

-- which faces are holes
kind_none : (t : Part) (f : ℕ) → (round_kind t f ≡ 3 → ⊥) → (is_round t f && is_hole t f) ≡ false
kind_none t f h = go (is_round t f) refl
  where
    go : (b : Bool) → is_round t f ≡ b → (b && is_hole t f) ≡ false
    go true e = sym (kind_hole t f e) ∙ ne_eqb (round_kind t f) 3 h
    go false e = refl

round_face : (t : Part) (f : ℕ) → (round_of t f).face ≡ f
unfolding round_of
round_face t f = refl

module _ (t : Part) (f : ℕ) where
  abbrev flaws_in : Round → List Flaw
  flaws_in hole = cond (lt (add binary64 (diameter_of hole) e_9) t.job.print.min_hole) (PrintSmallHole f (diameter_of hole) ∷ []) []

  none_in : (is_round t f && is_hole t f) ≡ false → [] ≡ small_hole t f
  unfolding small_hole
  none_in e = sym (ap (λ (b : Bool). cond b (flaws_in (round_of t f)) []) e)

  some_in : is_round t f ≡ true → is_hole t f ≡ true → (hole : Round) → hole ≡ round_of t f → (least : Float) → least ≡ t.job.print.min_hole →
      cond (lt (add binary64 (diameter_of hole) e_9) least) (PrintSmallHole hole.face (diameter_of hole) ∷ []) [] ≡ small_hole t f
  unfolding small_hole
  some_in r h hole e least el = rw (el, e, round_face, r, h) refl

module _ (s : List ℕ) (at : Regions) (words : List ℕ) (reals : List Float) (stands : Standing s at words reals) (rounds : Rounds (part_of s) at words reals) (f : ℕ)
    (low : f < faces_of (part_of s)) where
  below : (f < at.polygons) × (f < 1024)
  below = face_low s at f stands.placed low

  pub kind_room : at.kinds + f < length words
  kind_room = omega (arith, below, stands.placed.laid, stands.words_room)

  small : at.kinds + f < 1048576
  small = omega (arith, below, stands.placed.laid)

  pub kind_fits : at.kinds + f < 2 ^ 64
  kind_fits = omega (arith, small)

  pub kind_bytes : (at.kinds + f) * 4 < 2 ^ 64
  kind_bytes = omega (arith, small)

  kind_is : get_or words (at.kinds + f) 0 ≡ round_kind (part_of s) f
  kind_is = kind_at (part_of s) at words reals f stands.placed.laid rounds low below.0

  module _ (k : get_or words (at.kinds + f) 0 ≡ 3) where
    pub hole_round : is_round (part_of s) f ≡ true
    hole_round = kind_round (part_of s) f (λ e. omega (arith, e, kind_is, k))

    hole_whole : is_hole (part_of s) f ≡ true
    hole_whole = sym (kind_hole (part_of s) f hole_round) ∙ eq-eqb (round_kind (part_of s) f) 3 (sym kind_is ∙ k)

    module _ (hole : Round) (e : hole ≡ round_of (part_of s) f) where
      face_is : hole.face ≡ f
      face_is = ap (λ (x : Round). x.face) e ∙ round_face (part_of s) f

      -- the rows that are there and the face are numbers of 32 bits
      pub hole_fits : {from n : ℕ} → from ≤ 65536 → n ≤ from + f → (n < 4294967296) × (hole.face < 4294967296)
      hole_fits few most = (omega (arith, few, most, below), omega (arith, face_is, below))

      pub holes_next : (job : Job) → job ≡ (part_of s).job → {from n r : ℕ} {c c' c'' : List ℕ} {x x' x'' : List Float} →
          HolesTo (part_of s) f from c c' x x' n → HolePut hole job.print.min_hole n c' c'' x' x'' r → HolesTo (part_of s) (f + 1) from c c'' x x'' r
      holes_next job ej p q =
          let el : job.print.min_hole ≡ (part_of s).job.print.min_hole = ap (λ (j : Job). j.print.min_hole) ej in
          let bounds : RoundBounds hole = subst RoundBounds (sym e) (round_bounds s stands.placed.checked f low hole_round) in
          let one = q.put s stands.placed.checked el bounds (omega (arith, face_is, low)) in
          record {
            few = omega (arith, p.few, q.few);
            put = flaws_same (sym (joined_suc (small_hole (part_of s)) f) ∙ ap (joined (small_hole (part_of s))) (sym (add-one f)))
                (flaws_then p.put (flaws_same (some_in (part_of s) f hole_round hole_whole hole e job.print.min_hole el) one));
          }

  -- a face that is none
  pub holes_pass : {from n : ℕ} {c c' : List ℕ} {x x' : List Float} → (get_or words (at.kinds + f) 0 ≡ 3 → ⊥) →
      HolesTo (part_of s) f from c c' x x' n → HolesTo (part_of s) (f + 1) from c c' x x' n
  holes_pass unlike p =
      let none = none_in (part_of s) f (kind_none (part_of s) f (λ e. unlike (kind_is ∙ e))) in
      record {
        few = omega (arith, p.few);
        put = flaws_same
            (sym (append-nil (joined (small_hole (part_of s)) f)) ∙ ap (λ (x : List Flaw). joined (small_hole (part_of s)) f ++ x) none
            ∙ sym (joined_suc (small_hole (part_of s)) f) ∙ ap (joined (small_hole (part_of s))) (sym (add-one f)))
            p.put;
      }
