-- The faces that a flaw names: the cells and the part tell the same.
use mathlib.Core.Path.{◌≡◌, refl, sym, ap, ap₂, ◌∙◌}
use mathlib.Core.Bool.{Bool, true, false, cond, ◌&&◌, ◌||◌}
use mathlib.Core.List.{List, [], ◌∷◌}
use mathlib.Core.Logic.{inl, inr}
use Prim.Native.Nat.{ℕ, ◌+◌, ◌<◌}
use native.Mathlib.Omega.{arith}
use lib.Dec.{eqb}
use lib.ListN.{get_or}
use borrow.Author.Tests.{eqb-true, eq-eqb}
use Rattle.num_float.proofs.Tests.{contrary}
use Rattle.list_laws.proofs.Regions.{part_place}
use Rattle.file_part.specs.declared.read.FaceId.{FaceId}
use Rattle.file_part.specs.Part.{Part, part_of}
use Rattle.solid_faces.specs.Faces.{faces_of, face_number}
use Rattle.solid_ids.specs.Ids.{id_of}
use Rattle.solid_bodies.specs.Body.{some_below, body_of}
use Rattle.scratch.specs.declared.regions.Regions.{Regions}
use Rattle.scratch.specs.Standing.{Placed, Words}
use Rattle.scratch.proofs.StandingLaws.{placed_polygons}
use Rattle.sheet_thickness.specs.Thickness.{is_off_face}
use Rattle.sheet_thickness.specs.Kept.{OffFaces}
use Rattle.print_overhang.specs.Overhang.{is_overhang, lean_of_word}
use Rattle.print_overhang.specs.Kept.{Marks}
use Rattle.fault_row.specs.declared.flaw.Flaw.{Flaw}
use Rattle.fault_row.specs.declared.flaw.Flaw.TheVariants.{ThinWall, SmallHole, DeepHoleMax, DeepHoleStandard, TightInsideRadius, DeepInsideCorner, SharpInsideCorner, NoMaterial, Material, NotOneThickness, TightBend, ShortFlange, SheetSmallHole, HoleNearBend, HoleNearEdge, NotClosed, ThinnerThanALayer, FewLayers, ThinnerThanTheNozzle, PrintThinWall, PrintSmallHole, Overhang, EnclosedHollowSla, EnclosedHollowSls}
use Rattle.fault_merge.specs.fault_text.specs.Many.{face_of_body, hollow_faces, off_faces, overhang_faces}
use Rattle.fault_merge.specs.fault_text.specs.Told.{told}
use Rattle.fault_merge.specs.fault_text.specs.Good.{Good}
use Rattle.fault_lines.specs.Member.{In, Ordered}
use Rattle.fault_lines.specs.Ids.{Lower}
use Rattle.report_faces.specs.declared.named.Named.{Named}
use Rattle.report_faces.specs.declared.named.Named.TheVariants.{NoFace, One, Two, Off, Hanging, Body}
use Rattle.report_faces.specs.Named.{named_of, faces_named, is_many, own_faces}
use Rattle.report_faces.specs.Work.{is_same_of, is_either, Fits, has_flag, is_in_body, names_in, Told}
use Rattle.report_faces.proofs.SomeLaws.{some_alike}
use Rattle.report_faces.proofs.IdsLaws.{ids_whole, ids_sound, ids_rising}

-- ---- by its flaw
-- the faces of a fault are those that its flaw names
pub told_named : (t : Part) (f : Flaw) → (told t f).faces ≡ faces_named t (named_of f)
unfolding told named_of faces_named
told_named t (ThinWall s f g x) = refl
told_named t (SmallHole f d) = refl
told_named t (DeepHoleMax f ratio d l) = refl
told_named t (DeepHoleStandard f ratio) = refl
told_named t (TightInsideRadius f radius) = refl
told_named t (DeepInsideCorner f ratio radius l) = refl
told_named t (SharpInsideCorner f g l fillet) = refl
told_named t NoMaterial = refl
told_named t Material = refl
told_named t (NotOneThickness lo hi thickness) = refl
told_named t (TightBend f g radius least) = refl
told_named t (ShortFlange f g l least) = refl
told_named t (SheetSmallHole f d least) = refl
told_named t (HoleNearBend f g gap need) = refl
told_named t (HoleNearEdge f g gap need) = refl
told_named t (NotClosed edges) = refl
told_named t (ThinnerThanALayer f g x) = refl
told_named t (FewLayers f g x layers) = refl
told_named t (ThinnerThanTheNozzle f g x) = refl
told_named t (PrintThinWall s f g x) = refl
told_named t (PrintSmallHole f d) = refl
told_named t (Overhang count area) = refl
told_named t (EnclosedHollowSla p volume) = refl
told_named t (EnclosedHollowSls p volume) = refl

-- those that a printed flaw names itself are there
pub good_fits : (t : Part) (f : Flaw) → Good t f → Fits (faces_of t) (named_of f)
unfolding Good named_of Fits
good_fits t (ThinWall s f g x) h = (h.0, h.1)
good_fits t (SmallHole f d) h = h.0
good_fits t (DeepHoleMax f ratio d l) h = h.0
good_fits t (DeepHoleStandard f ratio) h = h.0
good_fits t (TightInsideRadius f radius) h = h.0
good_fits t (DeepInsideCorner f ratio radius l) h = h.0
good_fits t (SharpInsideCorner f g l fillet) h = (h.0, h.1)
good_fits t NoMaterial h = tt
good_fits t Material h = tt
good_fits t (NotOneThickness lo hi thickness) h = tt
good_fits t (TightBend f g radius least) h = (h.0, h.1)
good_fits t (ShortFlange f g l least) h = (h.0, h.1)
good_fits t (SheetSmallHole f d least) h = h.0
good_fits t (HoleNearBend f g gap need) h = (h.0, h.1)
good_fits t (HoleNearEdge f g gap need) h = (h.0, h.1)
good_fits t (NotClosed edges) h = tt
good_fits t (ThinnerThanALayer f g x) h = (h.0, h.1)
good_fits t (FewLayers f g x layers) h = (h.0, h.1)
good_fits t (ThinnerThanTheNozzle f g x) h = (h.0, h.1)
good_fits t (PrintThinWall s f g x) h = (h.0, h.1)
good_fits t (PrintSmallHole f d) h = h.0
good_fits t (Overhang count area) h = tt
good_fits t (EnclosedHollowSla p volume) h = tt
good_fits t (EnclosedHollowSls p volume) h = tt

-- ---- by its case
-- where none is found from the part, a flaw names all of them itself
pub own_all : (t : Part) (named : Named) → is_many named ≡ false → own_faces t named ≡ faces_named t named
unfolding is_many own_faces faces_named
own_all t NoFace e = refl
own_all t (One f) e = refl
own_all t (Two f g) e = refl
own_all t Off e = absurd (contrary refl e)
own_all t Hanging e = absurd (contrary refl e)
own_all t (Body p) e = absurd (contrary refl e)

-- those that are found from the part rise
pub many_rising : (t : Part) (named : Named) → is_many named ≡ true → Ordered Lower (faces_named t named)
unfolding is_many faces_named off_faces overhang_faces hollow_faces
many_rising t NoFace e = absurd (contrary e refl)
many_rising t (One f) e = absurd (contrary e refl)
many_rising t (Two f g) e = absurd (contrary e refl)
many_rising t Off e = ids_rising t (is_off_face t)
many_rising t Hanging e = ids_rising t (is_overhang t)
many_rising t (Body p) e = ids_rising t (face_of_body t p)

-- ---- by the cells
module _ (s : List ℕ) (at : Regions) (words : List ℕ) (placed : Placed s at) (body : Words (part_of s) at words) where
  abbrev t : Part
  t = part_of s

  pub face_is : (p : ℕ) → p < at.polygons → get_or words (at.faces + p) 0 ≡ face_number t p
  face_is p l =
      sym (part_place at.faces at.readings words 0 p (omega (arith, l, placed.laid)))
      ∙ body.faces.numbers.each p (omega (arith, l, placed_polygons s at placed))

  flag_is : (b : Bool) → eqb (cond b 1 0) 1 ≡ b
  flag_is true = refl
  flag_is false = refl

  off_is : OffFaces t at words → (f : ℕ) → f < faces_of t → has_flag words at f ≡ is_off_face t f
  unfolding has_flag
  off_is told f l = ap (λ (z : ℕ). eqb z 1) (told.each f l) ∙ flag_is (is_off_face t f)

  hanging_is : Marks t (lean_of_word t) at words → (f : ℕ) → f < faces_of t → has_flag words at f ≡ is_overhang t f
  unfolding has_flag is_overhang
  hanging_is told f l = ap (λ (z : ℕ). eqb z 1) (told.each f l) ∙ flag_is (is_overhang t f)

  body_is : at.bodies ≡ true → (b f : ℕ) → is_in_body words at b f ≡ face_of_body t b f
  unfolding is_in_body face_of_body
  body_is on b f =
      some_alike at.polygons (λ p. eqb (get_or words (at.faces + p) 0) f && eqb (get_or words p 0) b) (λ p. eqb (face_number t p) f && eqb (body_of t p) b)
      (λ p l. ap₂ (λ (x y : ℕ). eqb x f && eqb y b) (face_is p l) ((body.labels on).each p (omega (arith, l, placed_polygons s at placed))))
      ∙ ap (λ (k : ℕ). some_below k (λ p. eqb (face_number t p) f && eqb (body_of t p) b)) (placed_polygons s at placed)

  -- a face that the cells name is one of them
  pub named_in_part : (named : Named) → Told t at words named → (f : ℕ) → f < faces_of t → names_in words at named f ≡ true → In (id_of t f) (faces_named t named)
  unfolding Told names_in faces_named is_same_of is_either off_faces overhang_faces hollow_faces In
  named_in_part NoFace told f l h = absurd (contrary h refl)
  named_in_part (One a) told f l h = inl (ap (id_of t) (eqb-true _ _ h))
  named_in_part (Two a b) told f l h = two (eqb f a) (eqb f b) refl refl h
    where
      two : (p q : Bool) → eqb f a ≡ p → eqb f b ≡ q → (p || q) ≡ true → In (id_of t f) (id_of t a ∷ id_of t b ∷ [])
      two true q m n k = inl (ap (id_of t) (eqb-true _ _ m))
      two false true m n k = inr (inl (ap (id_of t) (eqb-true _ _ n)))
      two false false m n k = absurd (contrary k refl)
  named_in_part Off told f l h = ids_whole t (is_off_face t) f l (sym (off_is told f l) ∙ h)
  named_in_part Hanging told f l h = ids_whole t (is_overhang t) f l (sym (hanging_is told f l) ∙ h)
  named_in_part (Body b) told f l h = ids_whole t (face_of_body t b) f l (sym (body_is told b f) ∙ h)

  -- and the other way
  pub part_named_in : (named : Named) → Told t at words named → Fits (faces_of t) named → (a : FaceId) → In a (faces_named t named) →
      (f : ℕ) × (f < faces_of t) × (a ≡ id_of t f) × (names_in words at named f ≡ true)
  unfolding Told Fits names_in faces_named is_same_of is_either off_faces overhang_faces hollow_faces In
  part_named_in NoFace told fits a m = absurd m
  part_named_in (One f) told fits a (inl e) = (f, fits, e, eq-eqb f f refl)
  part_named_in (One f) told fits a (inr m) = absurd m
  part_named_in (Two f g) told fits a (inl e) = (f, fits.0, e, rw (eq-eqb f f refl))
  part_named_in (Two f g) told fits a (inr (inl e)) = (g, fits.1, e, second (eqb g f) (eqb g g) (eq-eqb g g refl))
    where
      second : (p q : Bool) → q ≡ true → (p || q) ≡ true
      second true q h = refl
      second false q h = h
  part_named_in (Two f g) told fits a (inr (inr m)) = absurd m
  part_named_in Off told fits a m = let w = ids_sound t (is_off_face t) a m in (w.0, w.1, w.4, off_is told w.0 w.1 ∙ w.3)
  part_named_in Hanging told fits a m = let w = ids_sound t (is_overhang t) a m in (w.0, w.1, w.4, hanging_is told w.0 w.1 ∙ w.3)
  part_named_in (Body b) told fits a m = let w = ids_sound t (face_of_body t b) a m in (w.0, w.1, w.4, body_is told b w.0 ∙ w.3)
