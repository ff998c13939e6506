-- The flaw of a flaw's row; flaws put as rows: none, one, one list after another.
use mathlib.Core.Path.{◌≡◌, refl, sym, ap, ap₂, ◌∙◌, subst}
use mathlib.Core.Logic.{◌⊎◌, inl, inr}
use mathlib.Core.List.{List, [], ◌∷◌, ◌++◌}
use Prim.Native.Nat.{ℕ, ◌+◌, ◌-◌, ◌*◌, ◌≤◌, ◌<◌}
use native.Mathlib.Omega.{arith}
use borrow.Author.Tests.{ne_eqb}
use lib.ListN.{length, get_or, length-append, get_or-append}
use lib.Seq.{get_or-append-add}
use lib.Ieee.{Float, nan}
use Rattle.num_float.proofs.Tests.{lt_or_ge}
use Rattle.list_laws.proofs.Outside.{outside_none, outside_then, outside_wide}
use Rattle.fault_row.specs.declared.fault.Severity.{Severity}
use Rattle.fault_row.specs.declared.fault.Severity.TheVariants.{Note}
use Rattle.fault_row.specs.declared.row.FaultRow.{FaultRow}
use Rattle.fault_row.specs.declared.flaw.Flaw.{Flaw}
use Rattle.fault_row.specs.declared.flaw.Flaw.TheVariants.{ThinWall, SmallHole, DeepHoleMax, DeepHoleStandard, TightInsideRadius, DeepInsideCorner, SharpInsideCorner, NoMaterial, Material, NotOneThickness, TightBend, ShortFlange, SheetSmallHole, HoleNearBend, HoleNearEdge, NotClosed, ThinnerThanALayer, FewLayers, ThinnerThanTheNozzle, PrintThinWall, PrintSmallHole, Overhang, EnclosedHollowSla, EnclosedHollowSls}
use Rattle.fault_row.specs.Names.{severity_rank, severity_of}
use Rattle.fault_row.specs.Row.{row, row_at_of, row_room, RowPut}
use Rattle.fault_row.specs.Flaw.{o, row_of, flaw_of}
use Rattle.fault_row.specs.Flaws.{none, FlawsPut}
use Rattle.fault_row.proofs.NameLaws.{severity_of_lem}
use Rattle.fault_row.proofs.RowLaws.{row_kept}

-- ---- a flaw is known from its row
pub flaw_of_row : (f : Flaw) → flaw_of (row_of f) ≡ f
unfolding row_of flaw_of
flaw_of_row (ThinWall s f g x) = ap (λ (v : Severity). ThinWall v f g x) (severity_of_lem s)
flaw_of_row (SmallHole f d) = refl
flaw_of_row (DeepHoleMax f ratio d l) = refl
flaw_of_row (DeepHoleStandard f ratio) = refl
flaw_of_row (TightInsideRadius f radius) = refl
flaw_of_row (DeepInsideCorner f ratio radius l) = refl
flaw_of_row (SharpInsideCorner f g l fillet) = refl
flaw_of_row NoMaterial = refl
flaw_of_row Material = refl
flaw_of_row (NotOneThickness lo hi thickness) = refl
flaw_of_row (TightBend f g radius least) = refl
flaw_of_row (ShortFlange f g l least) = refl
flaw_of_row (SheetSmallHole f d least) = refl
flaw_of_row (HoleNearBend f g gap need) = refl
flaw_of_row (HoleNearEdge f g gap need) = refl
flaw_of_row (NotClosed edges) = refl
flaw_of_row (ThinnerThanALayer f g x) = refl
flaw_of_row (FewLayers f g x layers) = refl
flaw_of_row (ThinnerThanTheNozzle f g x) = refl
flaw_of_row (PrintThinWall s f g x) = ap (λ (v : Severity). PrintThinWall v f g x) (severity_of_lem s)
flaw_of_row (PrintSmallHole f d) = refl
flaw_of_row (Overhang count area) = refl
flaw_of_row (EnclosedHollowSla p volume) = refl
flaw_of_row (EnclosedHollowSls p volume) = refl

-- ---- in the words of `row_of` and `flaw_of`
module _ {n f g : ℕ} {x : Float} (s : Severity) (e : n ≡ severity_rank s) where
  pub thin_wall_row : row 1 n 1 f g 0 x o o ≡ row_of (ThinWall s f g x)
  unfolding row_of
  thin_wall_row = ap (λ (v : ℕ). row 1 v 1 f g 0 x o o) e

  pub print_thin_wall_row : row 20 n 1 f g 0 x o o ≡ row_of (PrintThinWall s f g x)
  unfolding row_of
  print_thin_wall_row = ap (λ (v : ℕ). row 20 v 1 f g 0 x o o) e

module _ {f g : ℕ} {x : Float} {s : Severity} (n : ℕ) (e : s ≡ severity_of n) where
  pub thin_wall_flaw : ThinWall s f g x ≡ ThinWall (severity_of n) f g x
  thin_wall_flaw = ap (λ (v : Severity). ThinWall v f g x) e

  pub print_thin_wall_flaw : PrintThinWall s f g x ≡ PrintThinWall (severity_of n) f g x
  print_thin_wall_flaw = ap (λ (v : Severity). PrintThinWall v f g x) e

pub last_severity : (n : ℕ) → (n ≡ 0 → ⊥) → (n ≡ 1 → ⊥) → Note ≡ severity_of n
unfolding severity_of
last_severity n a b = rw (ne_eqb _ _ a, ne_eqb _ _ b)

-- a row by its kind
pub by_kind : (r : FaultRow) {k : ℕ} → r.kind ≡ k → flaw_of (row k r.severity r.count r.a r.b r.waived r.x r.y r.z) ≡ flaw_of r
by_kind r e = ap (λ (k : ℕ). flaw_of (row k r.severity r.count r.a r.b r.waived r.x r.y r.z)) (sym e)

-- none of the kinds but 16
pub no_kind : (r : FaultRow) → (r.kind ≡ 1 → ⊥) → (r.kind ≡ 2 → ⊥) → (r.kind ≡ 3 → ⊥) → (r.kind ≡ 4 → ⊥) → (r.kind ≡ 5 → ⊥) → (r.kind ≡ 6 → ⊥) → (r.kind ≡ 7 → ⊥) → (r.kind ≡ 8 → ⊥) → (r.kind ≡ 9 → ⊥) → (r.kind ≡ 10 → ⊥) → (r.kind ≡ 11 → ⊥) → (r.kind ≡ 12 → ⊥) → (r.kind ≡ 13 → ⊥) → (r.kind ≡ 14 → ⊥) → (r.kind ≡ 15 → ⊥) → (r.kind ≡ 17 → ⊥) → (r.kind ≡ 18 → ⊥) → (r.kind ≡ 19 → ⊥) → (r.kind ≡ 20 → ⊥) → (r.kind ≡ 21 → ⊥) → (r.kind ≡ 22 → ⊥) → (r.kind ≡ 23 → ⊥) → (r.kind ≡ 24 → ⊥) → NotClosed r.a ≡ flaw_of r
unfolding flaw_of
no_kind r n1 n2 n3 n4 n5 n6 n7 n8 n9 n10 n11 n12 n13 n14 n15 n17 n18 n19 n20 n21 n22 n23 n24 =
    rw (ne_eqb _ _ n1, ne_eqb _ _ n2, ne_eqb _ _ n3, ne_eqb _ _ n4, ne_eqb _ _ n5, ne_eqb _ _ n6, ne_eqb _ _ n7, ne_eqb _ _ n8, ne_eqb _ _ n9, ne_eqb _ _ n10, ne_eqb _ _ n11, ne_eqb _ _ n12, ne_eqb _ _ n13, ne_eqb _ _ n14, ne_eqb _ _ n15, ne_eqb _ _ n17, ne_eqb _ _ n18, ne_eqb _ _ n19, ne_eqb _ _ n20, ne_eqb _ _ n21, ne_eqb _ _ n22, ne_eqb _ _ n23, ne_eqb _ _ n24)

-- ---- flaws put as rows
module _ {good : Flaw → Type 0} where
  pub flaws_none : (from : ℕ) (cells : List ℕ) (numbers : List Float) → FlawsPut good from [] cells cells numbers numbers from
  flaws_none from cells numbers =
      record {
        count = omega arith;
        each = λ k h l. absurd (omega arith);
        sound = λ k h. absurd (omega arith);
        cells_kept = outside_none 0 (6 * from) (6 * from) cells;
        numbers_kept = outside_none nan (3 * from) (3 * from) numbers;
      }

  -- one flaw by its row
  pub flaws_one : {k r : ℕ} {cells cells' : List ℕ} {numbers numbers' : List Float} (f : Flaw) → RowPut k (row_of f) cells cells' numbers numbers' r → good f →
      FlawsPut good k (f ∷ []) cells cells' numbers numbers' r
  flaws_one {k} {r} {cells} {cells'} {numbers} {numbers'} f p ok =
      let end : r ≡ k + 1 = p.count in
      record {
        count = omega arith;
        each = λ j h l. row_is j h l ∙ ap row_of (first j h);
        sound = λ j h. subst good (first j h) ok;
        cells_kept = outside_wide 0 (6 * k) (6 * k + 6) (6 * k) (6 * r) cells cells' (omega arith) (omega arith) p.cells_kept;
        numbers_kept = outside_wide nan (3 * k) (3 * k + 3) (3 * k) (3 * r) numbers numbers' (omega arith) (omega arith) p.numbers_kept;
      }
    where
      row_is : (j : ℕ) → j < 1 → k + j < row_room (length cells) (length numbers) → row_at_of cells' numbers' (k + j) ≡ row_of f
      row_is j h l = let here : k + j ≡ k = omega arith in ap (row_at_of cells' numbers') here ∙ p.stands (omega arith)

      first : (j : ℕ) → j < 1 → f ≡ get_or (f ∷ []) j none
      first j h = let z : 0 ≡ j = omega arith in ap (λ (i : ℕ). get_or (f ∷ []) i none) z

  -- the same flaws in other words
  pub flaws_same : {from r : ℕ} {fs gs : List Flaw} {cells cells' : List ℕ} {numbers numbers' : List Float} → fs ≡ gs →
      FlawsPut good from fs cells cells' numbers numbers' r → FlawsPut good from gs cells cells' numbers numbers' r
  flaws_same {from} {r} {fs} {gs} {cells} {cells'} {numbers} {numbers'} e h =
      subst (λ (x : List Flaw). FlawsPut good from x cells cells' numbers numbers' r) e h

  -- the rows before them are as they were
  pub flaws_before : {from r : ℕ} {fs : List Flaw} {cells cells' : List ℕ} {numbers numbers' : List Float} →
      FlawsPut good from fs cells cells' numbers numbers' r → (k : ℕ) → k < from → row_at_of cells' numbers' k ≡ row_at_of cells numbers k
  flaws_before {from} {r} {fs} {cells} {cells'} {numbers} {numbers'} h k low = row_kept cells cells' numbers numbers' from r k h.cells_kept h.numbers_kept low

  -- ---- one list after another
  module _ {from r s : ℕ} {fs gs : List Flaw} {c c' c'' : List ℕ} {n n' n'' : List Float} (p : FlawsPut good from fs c c' n n' r)
      (q : FlawsPut good r gs c' c'' n' n'' s) where
    room_same : row_room (length c') (length n') ≡ row_room (length c) (length n)
    room_same = ap₂ row_room p.cells_kept.long p.numbers_kept.long

    late : (k : ℕ) → length fs ≤ k → from + k ≡ r + (k - length fs)
    late k h = omega (arith, p.count)

    late_room : (k : ℕ) → length fs ≤ k → from + k < row_room (length c) (length n) → r + (k - length fs) < row_room (length c') (length n')
    late_room k h l = omega (arith, late k h, room_same)

    late_below : (k : ℕ) → length fs ≤ k → k < length (fs ++ gs) → k - length fs < length gs
    late_below k h l = omega (arith, length-append fs gs)

    late_flaw : (k : ℕ) → length fs ≤ k → get_or gs (k - length fs) none ≡ get_or (fs ++ gs) k none
    late_flaw k h =
        let back : length fs + (k - length fs) ≡ k = omega arith in
        sym (get_or-append-add fs gs (k - length fs) none) ∙ ap (λ (j : ℕ). get_or (fs ++ gs) j none) back

    put_each : (k : ℕ) → k < length (fs ++ gs) → from + k < row_room (length c) (length n) → (k < length fs) ⊎ (length fs ≤ k) →
        row_at_of c'' n'' (from + k) ≡ row_of (get_or (fs ++ gs) k none)
    put_each k h l (inl low) = flaws_before q (from + k) (omega (arith, p.count)) ∙ p.each k low l ∙ ap row_of (sym (get_or-append fs gs none k low))
    put_each k h l (inr high) =
        ap (row_at_of c'' n'') (late k high) ∙ q.each (k - length fs) (late_below k high h) (late_room k high l) ∙ ap row_of (late_flaw k high)

    put_sound : (k : ℕ) → k < length (fs ++ gs) → (k < length fs) ⊎ (length fs ≤ k) → good (get_or (fs ++ gs) k none)
    put_sound k h (inl low) = subst good (sym (get_or-append fs gs none k low)) (p.sound k low)
    put_sound k h (inr high) = subst good (late_flaw k high) (q.sound (k - length fs) (late_below k high h))

    pub flaws_then : FlawsPut good from (fs ++ gs) c c'' n n'' s
    flaws_then =
        let on : from ≤ r = omega (arith, p.count) in
        let to : r ≤ s = omega (arith, q.count) in
        record {
          count = omega (arith, p.count, q.count, length-append fs gs);
          each = λ k h l. put_each k h l (lt_or_ge k (length fs));
          sound = λ k h. put_sound k h (lt_or_ge k (length fs));
          cells_kept =
              outside_then 0 (6 * from) (6 * s) c c' c'' (outside_wide 0 (6 * from) (6 * r) (6 * from) (6 * s) c c' (omega arith) (omega arith) p.cells_kept)
              (outside_wide 0 (6 * r) (6 * s) (6 * from) (6 * s) c' c'' (omega arith) (omega arith) q.cells_kept);
          numbers_kept =
              outside_then nan (3 * from) (3 * s) n n' n'' (outside_wide nan (3 * from) (3 * r) (3 * from) (3 * s) n n' (omega arith) (omega arith) p.numbers_kept)
              (outside_wide nan (3 * r) (3 * s) (3 * from) (3 * s) n' n'' (omega arith) (omega arith) q.numbers_kept);
        }
