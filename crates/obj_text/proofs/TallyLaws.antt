-- The tally of a text's lines.
use Rattle.std.proofs.Common.{Result, Ok, Err}
use Rattle.std.specs.Bool.{⊤}
use Rattle.std.specs.Result.{result_and, ForOk, IsErrAnd}
use mathlib.Core.Path.{◌≡◌, refl, sym, ap, ◌∙◌, subst}
use mathlib.Core.Bool.{Bool, true, false, cond}
use mathlib.Core.List.{List, [], ◌∷◌, ◌++◌}
use Prim.Native.Nat.{ℕ, suc, ◌+◌, ◌≤◌, ◌<◌, ◌^◌, min}
use native.Mathlib.Nat.{le_trans, le_of_eq}
use native.Mathlib.Decide.{dec_le}
use native.Mathlib.Omega.{arith}
use lib.Dec.{leb}
use lib.ListN.{length, length-append}
use borrow.Author.Tests.{le-leb, lt-leb}
use Rattle.refusal.specs.declared.Refusal.{Refusal}
use Rattle.refusal.specs.declared.Refusal.TheVariants.{BadLine, UndefinedVertex}
use Rattle.math.specs.declared.Vec3.{Vec3}
use Rattle.obj_number.specs.Whole.{capped}
use Rattle.obj_line.specs.declared.line.Corners.{Corners}
use Rattle.obj_line.specs.declared.line.Line.{Line}
use Rattle.obj_line.specs.Form.{Form, vertex, face, group, skipped, other, largest, line_of}
use Rattle.obj_text.specs.declared.judge.Tally.{Tally}
use Rattle.obj_text.specs.Text.{forms_of, refusal_from, line_refusal, faces_from, faces_of, corners_from, corners_of}
use Rattle.obj_text.specs.Work.{tallied, tally_from, start}
use Rattle.obj_text.proofs.LineLaws.{forms_length}

-- ---- one line, as the code has it
pub add_vertex : (t : Tally) (line : Line) (v : Vec3) → line ≡ Line.Vertex v
    → Ok record { defined = t.defined + 1; corners = t.corners; polygons = t.polygons; index = t.index } ≡ tallied t line
unfolding tallied
add_vertex t line v e = sym (ap (tallied t) e)

pub add_group : (t : Tally) (line : Line) (n : ℕ) → line ≡ Line.Group n
    → Ok record { defined = t.defined; corners = t.corners; polygons = t.polygons; index = n } ≡ tallied t line
unfolding tallied
add_group t line n e = sym (ap (tallied t) e)

pub add_skipped : (t : Tally) (line : Line) → line ≡ Line.Skipped → Ok t ≡ tallied t line
unfolding tallied
add_skipped t line e = sym (ap (tallied t) e)

pub add_other : (t : Tally) (line : Line) → line ≡ Line.Other → Err BadLine ≡ tallied t line
unfolding tallied
add_other t line e = sym (ap (tallied t) e)

face_refused : (t : Tally) (c : Corners) → t.defined < c.largest → tallied t (Line.Face c) ≡ Err UndefinedVertex
unfolding tallied
face_refused t c h = rw (lt-leb c.largest t.defined h)

face_counted : (t : Tally) (c : Corners) → c.largest ≤ t.defined
    → tallied t (Line.Face c) ≡ Ok record { defined = t.defined; corners = min (t.corners + c.count) 16385; polygons = min (t.polygons + 1) 4097; index = t.index }
unfolding tallied
face_counted t c h = rw (le-leb c.largest t.defined h)

pub add_refused : (t : Tally) (line : Line) (c : Corners) → line ≡ Line.Face c → t.defined < c.largest → Err UndefinedVertex ≡ tallied t line
add_refused t line c e h = sym (ap (tallied t) e ∙ face_refused t c h)

pub add_face : (t : Tally) (line : Line) (c : Corners) (a b : ℕ) → line ≡ Line.Face c → c.largest ≤ t.defined → a ≡ min (t.corners + c.count) 16385 → b ≡ min (t.polygons + 1) 4097
    → Ok record { defined = t.defined; corners = a; polygons = b; index = t.index } ≡ tallied t line
add_face t line c a b e h p q = rw (p, q) (sym (ap (tallied t) e ∙ face_counted t c h))

-- ---- what one line can add
pub record Grown (t r : Tally) : Type 0 where
  pub defined_to : r.defined ≤ t.defined + 1
  pub corners_to_lem : r.corners ≤ 16385
  pub polygons_to_lem : r.polygons ≤ 4097

module _ (t : Tally) (C : t.corners ≤ 16385) (P : t.polygons ≤ 4097) where
  grown_same : (r : Tally) → r.defined ≤ t.defined + 1 → r.corners ≡ t.corners → r.polygons ≡ t.polygons → Grown t r
  grown_same r d c p = record { defined_to = d; corners_to_lem = le_trans (le_of_eq c) C; polygons_to_lem = le_trans (le_of_eq p) P }

  grown_to : (r : Tally) → Grown t r → ForOk {E = Refusal} (Ok r) (Grown t)
  grown_to r g u e = let same : r ≡ u = cc in subst (Grown t) same g

  pub grown : (line : Line) → ForOk (tallied t line) (Grown t)
  unfolding tallied
  grown (Line.Vertex v) = grown_to _ (grown_same _ (le_of_eq refl) refl refl)
  grown (Line.Face c) = go (leb c.largest t.defined)
    where
      go : (b : Bool)
          → ForOk (cond b (Ok record { defined = t.defined; corners = min (t.corners + c.count) 16385; polygons = min (t.polygons + 1) 4097; index = t.index }) (Err UndefinedVertex)) (Grown t)
      go true = grown_to _ record { defined_to = omega arith; corners_to_lem = omega arith; polygons_to_lem = omega arith }
      go false = λ u e. absurd cc
  grown (Line.Group n) = grown_to _ (grown_same _ (omega arith) refl refl)
  grown Line.Skipped = grown_to _ (grown_same _ (omega arith) refl refl)
  grown Line.Other = λ u e. absurd cc

-- ---- a line more, or the last
pub tally_more : (t u : Tally) (f : Form) (fs : List Form) → tallied t (line_of f) ≡ Ok u → tally_from (Ok u) fs ≡ tally_from (Ok t) (f ∷ fs)
unfolding tally_from
tally_more t u f fs e = sym (ap (λ (r : Result Tally Refusal). tally_from r fs) e)

pub tally_stop : (t : Tally) (d : Refusal) (f : Form) (fs : List Form) → tallied t (line_of f) ≡ Err d → Err d ≡ tally_from (Ok t) (f ∷ fs)
unfolding tally_from
tally_stop t d f fs e = sym (ap (λ (r : Result Tally Refusal). tally_from r fs) e)

pub tally_none : (t : Tally) → tally_from (Ok t) [] ≡ Ok t
unfolding tally_from
tally_none t = refl

-- `?` passes a refusal up as it is
pub passed_up : {A : Type 0} (r : Result A Refusal) (d : Refusal) → IsErrAnd r (λ e. e ≡ d) → r ≡ Err d
passed_up (Ok t) d h = absurd h
passed_up (Err e) d h = ap (λ (k : Refusal). Err k) h

-- ---- the whole text
record Outcome (t : Tally) (i : ℕ) (fs : List Form) (r : Result Tally Refusal) : Type 0 where
  refusal : result_and r (Ok tt) ≡ refusal_from t.defined fs
  corners : ForOk r (λ (u : Tally). u.corners ≡ min (t.corners + length (corners_from (faces_from i fs))) 16385)
  polygons : ForOk r (λ (u : Tally). u.polygons ≡ min (t.polygons + length (faces_from i fs)) 4097)

-- a number under the cap is compared as itself
capped_le_iff : (a n : ℕ) → n < 2 ^ 63 → a ≤ n → capped a ≤ n
unfolding capped
capped_le_iff a n h k = omega arith

capped_gt : (a n : ℕ) → n < 2 ^ 63 → n < a → n < capped a
unfolding capped
capped_gt a n h k = omega arith

corner_sum : (c k x y : ℕ) → y ≡ k + x → min (min (c + k) 16385 + x) 16385 ≡ min (c + y) 16385
corner_sum c k x y e = omega arith

polygon_sum : (p x : ℕ) → min (min (p + 1) 4097 + x) 4097 ≡ min (p + suc x) 4097
polygon_sum p x = omega arith

face_passes : (n : ℕ) (ns : List ℕ) (fs : List Form) → largest ns ≤ n → refusal_from n (face ns ∷ fs) ≡ refusal_from n fs
unfolding refusal_from
face_passes n ns fs h = rw (le-leb (largest ns) n h)

face_stops : (n : ℕ) (ns : List ℕ) (fs : List Form) → n < largest ns → refusal_from n (face ns ∷ fs) ≡ Err UndefinedVertex
unfolding refusal_from
face_stops n ns fs h = rw (lt-leb (largest ns) n h)

-- the tally after a face of so many corners
abbrev counted : Tally → ℕ → Tally
counted t n = record { defined = t.defined; corners = min (t.corners + n) 16385; polygons = min (t.polygons + 1) 4097; index = t.index }

outcome : (fs : List Form) (t : Tally) (i : ℕ) → t.defined + length fs ≤ 2 ^ 63 → t.corners ≤ 16385 → t.polygons ≤ 4097 → Outcome t i fs (tally_from (Ok t) fs)
unfolding tally_from refusal_from faces_from corners_from line_of tallied
outcome [] t i d C P = record {
  refusal = refl;
  corners = λ u e. let k : t ≡ u = cc in ap (λ (x : Tally). x.corners) (sym k) ∙ omega arith;
  polygons = λ u e. let k : t ≡ u = cc in ap (λ (x : Tally). x.polygons) (sym k) ∙ omega arith;
}
outcome (vertex v ∷ fs) t i d C P =
    let o = outcome fs record { defined = t.defined + 1; corners = t.corners; polygons = t.polygons; index = t.index } i (omega arith) C P in
    record { refusal = o.refusal; corners = o.corners; polygons = o.polygons }
outcome (face ns ∷ fs) t i d C P = go (dec_le (largest ns) t.defined) (outcome fs (counted t (length ns)) i (omega arith) (omega arith) (omega arith))
  where
    c : Corners
    c = record { count = length ns; largest = capped (largest ns) }

    go : Dec (largest ns ≤ t.defined) → Outcome (counted t (length ns)) i fs (tally_from (Ok (counted t (length ns))) fs) → Outcome t i (face ns ∷ fs) (tally_from (Ok t) (face ns ∷ fs))
    go (yes h) o =
        let k : refusal_from t.defined (face ns ∷ fs) ≡ refusal_from t.defined fs = face_passes t.defined ns fs h in
        let xs = corners_from (faces_from i fs) in
        subst (λ (x : Result Tally Refusal). Outcome t i (face ns ∷ fs) x)
        (tally_more t (counted t (length ns)) (face ns) fs (face_counted t c (capped_le_iff (largest ns) t.defined (omega arith) h)))
        record {
          refusal = o.refusal ∙ sym k;
          corners = λ u e. o.corners u e ∙ corner_sum t.corners (length ns) (length xs) (length (ns ++ xs)) (length-append ns xs);
          polygons = λ u e. o.polygons u e ∙ polygon_sum t.polygons (length (faces_from i fs));
        }
    go (no h) o =
        let more : t.defined < largest ns = omega (arith, h) in
        subst (λ (x : Result Tally Refusal). Outcome t i (face ns ∷ fs) x)
        (tally_stop t UndefinedVertex (face ns) fs (face_refused t c (capped_gt (largest ns) t.defined (omega arith) more)))
        record { refusal = sym (face_stops t.defined ns fs more); corners = λ u e. absurd cc; polygons = λ u e. absurd cc }
outcome (group j ∷ fs) t i d C P =
    let o = outcome fs record { defined = t.defined; corners = t.corners; polygons = t.polygons; index = j } j (omega arith) C P in
    record { refusal = o.refusal; corners = o.corners; polygons = o.polygons }
outcome (skipped ∷ fs) t i d C P =
    let o = outcome fs t i (omega arith) C P in
    record { refusal = o.refusal; corners = o.corners; polygons = o.polygons }
outcome (other ∷ fs) t i d C P = record { refusal = refl; corners = λ u e. absurd cc; polygons = λ u e. absurd cc }

pub record Told (text : List ℕ) (r : Result Tally Refusal) : Type 0 where
  pub refusal : result_and r (Ok tt) ≡ line_refusal text
  pub corners : ForOk r (λ (t : Tally). t.corners ≡ min (length (corners_of text)) 16385)
  pub polygons : ForOk r (λ (t : Tally). t.polygons ≡ min (length (faces_of text)) 4097)

pub told : (text : List ℕ) (r : Result Tally Refusal) → length text < 2 ^ 63 → r ≡ tally_from (Ok start) (forms_of text) → Told text r
unfolding start line_refusal faces_of corners_of
told text r h e =
    let bound : 0 + length (forms_of text) ≤ 2 ^ 63 = omega (arith, forms_length text) in
    let o = outcome (forms_of text) start 0 bound (omega arith) (omega arith) in
    let n = length (corners_from (faces_from 0 (forms_of text))) in
    let p = length (faces_from 0 (forms_of text)) in
    record {
      refusal = ap (λ (x : Result Tally Refusal). result_and x none) e ∙ o.refusal;
      corners = λ t k. o.corners t (sym e ∙ k) ∙ plain n 16385;
      polygons = λ t k. o.polygons t (sym e ∙ k) ∙ plain p 4097;
    }
  where
    none : Result ⊤ Refusal
    none = Ok tt

    plain : (n m : ℕ) → min (0 + n) m ≡ min n m
    plain n m = omega arith
