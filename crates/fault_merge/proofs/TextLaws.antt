-- Laws of texts in buffers of their own, and of headings whose ranks are known.
use mathlib.Core.Path.{◌≡◌, refl, sym, ap, ap₂, ◌∙◌, subst}
use mathlib.Core.Bool.{Bool, true, false, ◌&&◌}
use mathlib.Core.List.{List, [], ◌∷◌}
use Prim.Native.Nat.{ℕ, ◌+◌, ◌*◌, ◌≤◌, ◌<◌}
use native.Mathlib.Omega.{arith}
use lib.ListN.{length, take}
use lib.Dec.{eqb}
use borrow.Author.Tests.{eq-eqb}
use Rattle.std.specs.Cmp.Lexicographic.{pointwise}
use Rattle.num_text.specs.Put.{Put}
use Rattle.num_text.proofs.PutLaws.{put_measures_lem, put_taken}
use Rattle.file_part.specs.Part.{Part, part_of}
use Rattle.solid_faces.specs.Faces.{Checked}
use Rattle.fault_row.specs.declared.row.FaultRow.{FaultRow}
use Rattle.fault_row.specs.declared.fault.Rule.{Rule}
use Rattle.fault_row.specs.declared.flaw.Flaw.{Flaw}
use Rattle.fault_row.specs.declared.flaw.Flaw.TheVariants.{ThinWall, SmallHole, DeepHoleMax, DeepHoleStandard, TightInsideRadius, DeepInsideCorner, SharpInsideCorner, NoMaterial, Material, NotOneThickness, TightBend, ShortFlange, SheetSmallHole, HoleNearBend, HoleNearEdge, NotClosed, ThinnerThanALayer, FewLayers, ThinnerThanTheNozzle, PrintThinWall, PrintSmallHole, Overhang, EnclosedHollowSla, EnclosedHollowSls}
use Rattle.fault_row.specs.Names.{severity_rank, rule_rank}
use Rattle.fault_row.specs.Flaw.{row_of}
use Rattle.fault_row.proofs.NameLaws.{severity_rank_lt, rule_rank_lt}
use Rattle.fault_lines.specs.Line.{same_text, same_heading_of}
use Rattle.fault_lines.proofs.HeadingLaws.{heading_off}
use Rattle.fault_text.specs.Told.{told, text_of}
use Rattle.fault_text.specs.Good.{Good}
use Rattle.fault_text.proofs.LengthLaws.{checked_short}
use Rattle.fault_merge.specs.Rows.{heading_of, rank_of}

-- ---- a text that was written into a buffer of 512 bytes
pub text_short : (s : List ℕ) (f : Flaw) → Checked s → Good (part_of s) f → length (text_of (part_of s) f) ≤ 512
text_short s f h ok = omega (arith, checked_short s f h ok)

pub written : (s : List ℕ) (f : Flaw) → Checked s → Good (part_of s) f → {d e : List ℕ} {k : ℕ} → 512 ≤ length d → Put d 0 (text_of (part_of s) f) e k →
    (k ≡ length (text_of (part_of s) f)) × (k ≤ 512) × (take k e ≡ text_of (part_of s) f)
written s f h ok {d} {e} {k} l p =
    let short : length (text_of (part_of s) f) ≤ 512 = text_short s f h ok in
    let m : k ≡ 0 + length (text_of (part_of s) f) = put_measures_lem (text_of (part_of s) f) p (omega (arith, short)) in
    let n : k ≡ length (text_of (part_of s) f) = omega (arith, m) in
    (n, omega (arith, n, short), ap (λ (i : ℕ). take i e) n ∙ put_taken (text_of (part_of s) f) p (omega (arith, short, l)))

-- ---- texts, as slices are compared
pub text_compared : (s t : List ℕ) → pointwise eqb s t ≡ same_text s t
unfolding same_text
text_compared [] [] = refl
text_compared [] (b ∷ t) = refl
text_compared (a ∷ s) [] = refl
text_compared (a ∷ s) (b ∷ t) = ap (λ (r : Bool). eqb a b && r) (text_compared s t)

-- ---- ranks
-- a row's severity is the rank of the severity that its flaw is told with
pub row_severity : (t : Part) (f : Flaw) → (row_of f).severity ≡ severity_rank (told t f).heading.severity
unfolding row_of told severity_rank
row_severity t (ThinWall s f g x) = refl
row_severity t (SmallHole f d) = refl
row_severity t (DeepHoleMax f r d l) = refl
row_severity t (DeepHoleStandard f r) = refl
row_severity t (TightInsideRadius f r) = refl
row_severity t (DeepInsideCorner f q r l) = refl
row_severity t (SharpInsideCorner f g l r) = refl
row_severity t NoMaterial = refl
row_severity t Material = refl
row_severity t (NotOneThickness x y z) = refl
row_severity t (TightBend f g x y) = refl
row_severity t (ShortFlange f g x y) = refl
row_severity t (SheetSmallHole f x y) = refl
row_severity t (HoleNearBend f g x y) = refl
row_severity t (HoleNearEdge f g x y) = refl
row_severity t (NotClosed x) = refl
row_severity t (ThinnerThanALayer f g x) = refl
row_severity t (FewLayers f g x y) = refl
row_severity t (ThinnerThanTheNozzle f g x) = refl
row_severity t (PrintThinWall s f g x) = refl
row_severity t (PrintSmallHole f x) = refl
row_severity t (Overhang c x) = refl
row_severity t (EnclosedHollowSla p x) = refl
row_severity t (EnclosedHollowSls p x) = refl

-- and its count is the fault's
pub row_count : (t : Part) (f : Flaw) → (row_of f).count ≡ (told t f).count
unfolding row_of told
row_count t (ThinWall s f g x) = refl
row_count t (SmallHole f d) = refl
row_count t (DeepHoleMax f r d l) = refl
row_count t (DeepHoleStandard f r) = refl
row_count t (TightInsideRadius f r) = refl
row_count t (DeepInsideCorner f q r l) = refl
row_count t (SharpInsideCorner f g l r) = refl
row_count t NoMaterial = refl
row_count t Material = refl
row_count t (NotOneThickness x y z) = refl
row_count t (TightBend f g x y) = refl
row_count t (ShortFlange f g x y) = refl
row_count t (SheetSmallHole f x y) = refl
row_count t (HoleNearBend f g x y) = refl
row_count t (HoleNearEdge f g x y) = refl
row_count t (NotClosed x) = refl
row_count t (ThinnerThanALayer f g x) = refl
row_count t (FewLayers f g x y) = refl
row_count t (ThinnerThanTheNozzle f g x) = refl
row_count t (PrintThinWall s f g x) = refl
row_count t (PrintSmallHole f x) = refl
row_count t (Overhang c x) = refl
row_count t (EnclosedHollowSla p x) = refl
row_count t (EnclosedHollowSls p x) = refl

-- in the words of `rank_of`
low_severity : (f : Flaw) → (row_of f).severity < 3
unfolding row_of
low_severity (ThinWall s f g x) = severity_rank_lt s
low_severity (SmallHole f d) = omega arith
low_severity (DeepHoleMax f r d l) = omega arith
low_severity (DeepHoleStandard f r) = omega arith
low_severity (TightInsideRadius f r) = omega arith
low_severity (DeepInsideCorner f q r l) = omega arith
low_severity (SharpInsideCorner f g l r) = omega arith
low_severity NoMaterial = omega arith
low_severity Material = omega arith
low_severity (NotOneThickness x y z) = omega arith
low_severity (TightBend f g x y) = omega arith
low_severity (ShortFlange f g x y) = omega arith
low_severity (SheetSmallHole f x y) = omega arith
low_severity (HoleNearBend f g x y) = omega arith
low_severity (HoleNearEdge f g x y) = omega arith
low_severity (NotClosed x) = omega arith
low_severity (ThinnerThanALayer f g x) = omega arith
low_severity (FewLayers f g x y) = omega arith
low_severity (ThinnerThanTheNozzle f g x) = omega arith
low_severity (PrintThinWall s f g x) = severity_rank_lt s
low_severity (PrintSmallHole f x) = omega arith
low_severity (Overhang c x) = omega arith
low_severity (EnclosedHollowSla p x) = omega arith
low_severity (EnclosedHollowSls p x) = omega arith

pub row_severity_lt : (f : Flaw) (w : FaultRow) → w ≡ row_of f → w.severity < 3
row_severity_lt f w e = subst (λ (x : FaultRow). x.severity < 3) (sym e) (low_severity f)

pub rank_is : (t : Part) (f : Flaw) (w : FaultRow) (k : ℕ) (r : Rule) → w ≡ row_of f → r ≡ (told t f).heading.rule → k ≡ rule_rank r →
    w.severity * 18 + k ≡ rank_of (told t f).heading
unfolding rank_of
rank_is t f w k r e er ek =
    ap₂ (λ (a b : ℕ). a * 18 + b) (ap (λ (x : FaultRow). x.severity) e ∙ row_severity t f) (ek ∙ ap rule_rank er)

-- one number is two, each in its range
apart : (a b c d : ℕ) → b < 18 → d < 18 → a * 18 + b ≡ c * 18 + d → (a ≡ c) × (b ≡ d)
apart a b c d k l e = (omega (arith, k, l, e), omega (arith, k, l, e))

both : (p q t : Bool) → p ≡ true → q ≡ true → (p && (q && t)) ≡ t
both p q t e f = rw (e, f)

module _ (t : Part) (r s : Flaw) where
  pub other_rank : (rank_of (heading_of t r) ≡ rank_of (heading_of t s) → ⊥) → same_heading_of (heading_of t r) (heading_of t s) ≡ false
  other_rank h = heading_off _ _ (λ e. h (ap rank_of e))

  pub by_text : rank_of (heading_of t r) ≡ rank_of (heading_of t s) → same_heading_of (heading_of t r) (heading_of t s) ≡ same_text (text_of t r) (text_of t s)
  unfolding rank_of text_of same_heading_of
  by_text e =
      let w = apart (severity_rank (heading_of t r).severity) _ (severity_rank (heading_of t s).severity) _ (rule_rank_lt (heading_of t r).rule) (rule_rank_lt (heading_of t s).rule) e in
      both _ _ _ (eq-eqb _ _ w.0) (eq-eqb _ _ w.1)
