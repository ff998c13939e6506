-- The refusals, and what an accepted conversion leaves.
use Rattle.std.proofs.Common.{Result, Ok, Err, is_ok}
use Rattle.std.specs.Bool.{⊤}
use Rattle.std.specs.Result.{result_and}
use mathlib.Core.Path.{◌≡◌, refl, sym, ap, ◌∙◌}
use mathlib.Core.Bool.{Bool, true, false, not, ◌||◌, cond}
use mathlib.Core.List.{List, ◌++◌}
use Prim.Native.Nat.{ℕ, ◌+◌, ◌*◌, ◌≤◌, ◌<◌, min}
use native.Mathlib.Decide.{dec_le}
use native.Mathlib.Omega.{arith}
use lib.Dec.{eqb, ltb}
use lib.ListN.{length, drop}
use borrow.Author.Tests.{eqb-true, eq-eqb, ne_eqb, lt-ltb, le-ltb, ltb-false, not-false}
use Rattle.refusal.specs.declared.Refusal.{Refusal}
use Rattle.refusal.specs.declared.Refusal.TheVariants.{TooLarge, BadJob, OutputTooShort}
use Rattle.file_ok.specs.Verdict.{too_large}
use Rattle.obj_text.specs.declared.judge.Tally.{Tally}
use Rattle.obj_text.specs.Text.{line_refusal, faces_of, corners_of}
use Rattle.obj_text.specs.Judged.{Tables, Judged}
use Rattle.obj_part.specs.File.{part_file, obj_refusal}
use Rattle.obj.specs.Converts.{number_of, length_of, accepts, Converts}
use Rattle.obj.specs.Work.{size_refusal, Written}

-- ---- 3, 5 and 16
module _ (v p job room : ℕ) where
  pub size_vertices : 16384 < v → Err TooLarge ≡ size_refusal v p job room
  unfolding size_refusal too_large
  size_vertices h = rw (lt-ltb 16384 v h)

  pub size_polygons : v ≤ 16384 → 4096 < p → Err TooLarge ≡ size_refusal v p job room
  unfolding size_refusal too_large
  size_polygons h k = rw (le-ltb 16384 v h, lt-ltb 4096 p k)

  pub size_job : v ≤ 16384 → p ≤ 4096 → (job ≡ 128 → ⊥) → Err BadJob ≡ size_refusal v p job room
  unfolding size_refusal too_large
  size_job h k n = rw (le-ltb 16384 v h, le-ltb 4096 p k, ne_eqb job 128 n)

  pub size_room : v ≤ 16384 → p ≤ 4096 → job ≡ 128 → room < 24 * v + 80 * p + 144 → Err OutputTooShort ≡ size_refusal v p job room
  unfolding size_refusal too_large
  size_room h k n l = rw (le-ltb 16384 v h, le-ltb 4096 p k, eq-eqb job 128 n, lt-ltb room (24 * v + 80 * p + 144) l)

  pub size_good : v ≤ 16384 → p ≤ 4096 → job ≡ 128 → 24 * v + 80 * p + 144 ≤ room → Ok tt ≡ size_refusal v p job room
  unfolding size_refusal too_large
  size_good h k n l = rw (le-ltb 16384 v h, le-ltb 4096 p k, eq-eqb job 128 n, le-ltb room (24 * v + 80 * p + 144) l)

-- ---- after 14 and 15
refusals : (text : List ℕ) (job room : ℕ) → obj_refusal text job room ≡ result_and (line_refusal text) (size_refusal (length (corners_of text)) (length (faces_of text)) job room)
unfolding obj_refusal size_refusal
refusals text job room = refl

-- a count that stands for any more is too large as they are
pub same_small : (n m : ℕ) → n ≤ m → min n (m + 1) ≡ n
same_small n m h = omega arith

module _ (text : List ℕ) (a b : Tables) (r : Result Tally Refusal) (job room : ℕ) (j : Judged text a b r) where
  line_is : (q : Result ⊤ Refusal) (x : Result Tally Refusal) → r ≡ x → result_and x (Ok tt) ≡ q → line_refusal text ≡ q
  line_is q x e k = sym j.refusal ∙ ap (λ (y : Result Tally Refusal). result_and y (Ok tt)) e ∙ k

  pub lines_refused : (d : Refusal) → r ≡ Err d → Err d ≡ obj_refusal text job room
  lines_refused d e =
      sym (refusals text job room ∙ ap (λ (q : Result ⊤ Refusal). result_and q (size_refusal (length (corners_of text)) (length (faces_of text)) job room)) (line_is (Err d) (Err d) e refl))

  module _ (t : Tally) (e : r ≡ Ok t) where
    size_same : size_refusal t.corners t.polygons job room ≡ size_refusal (length (corners_of text)) (length (faces_of text)) job room
    size_same = go (dec_le v 16384) (dec_le p 4096)
      where
        v : ℕ
        v = length (corners_of text)

        p : ℕ
        p = length (faces_of text)

        go : Dec (v ≤ 16384) → Dec (p ≤ 4096) → size_refusal t.corners t.polygons job room ≡ size_refusal v p job room
        go (yes h) (yes k) =
            ap (λ (i : ℕ). size_refusal i t.polygons job room) (j.corners t e ∙ same_small v 16384 h) ∙ ap (λ (i : ℕ). size_refusal v i job room) (j.polygons t e ∙ same_small p 4096 k)
        go (no h) k =
            let c = j.corners t e in
            sym (size_vertices t.corners t.polygons job room (omega (arith, h, c))) ∙ size_vertices v p job room (omega (arith, h))
        go (yes h) (no k) =
            let c : t.corners ≡ v = j.corners t e ∙ same_small v 16384 h in
            let d = j.polygons t e in
            sym (size_polygons t.corners t.polygons job room (omega (arith, h, c)) (omega (arith, k, d))) ∙ size_polygons v p job room h (omega (arith, k))

    pub lines_passed : size_refusal t.corners t.polygons job room ≡ obj_refusal text job room
    lines_passed =
        size_same
        ∙ sym (refusals text job room ∙ ap (λ (q : Result ⊤ Refusal). result_and q (size_refusal (length (corners_of text)) (length (faces_of text)) job room)) (line_is (Ok tt) (Ok t) e refl))

-- ---- none of them
pub record Accepted (text : List ℕ) (job room : ℕ) : Type 0 where
  pub lines : line_refusal text ≡ Ok tt
  pub corners_most : length (corners_of text) ≤ 16384
  pub faces_most : length (faces_of text) ≤ 4096
  pub job_long : job ≡ 128
  pub room_enough : 24 * length (corners_of text) + 80 * length (faces_of text) + 144 ≤ room

past : (t : Bool) (d : Refusal) (q : Result ⊤ Refusal) → cond t (Err d) q ≡ Ok tt → (t ≡ false) × (q ≡ Ok tt)
past true d q e = absurd cc
past false d q e = (refl, e)

both_passed : (q r : Result ⊤ Refusal) → result_and q r ≡ Ok tt → (q ≡ Ok tt) × (r ≡ Ok tt)
both_passed (Ok x) r h = (refl, h)
both_passed (Err d) r h = absurd cc

neither : (a b : Bool) → (a || b) ≡ false → (a ≡ false) × (b ≡ false)
neither true b h = absurd (wrong h)
  where
    wrong : ◌≡◌ {A = Bool} true false → ⊥
    wrong k = let z : ◌≡◌ {A = ℕ} 0 1 = cc in omega arith
neither false b h = (refl, h)

pub accepted : (text : List ℕ) (job room : ℕ) → obj_refusal text job room ≡ Ok tt → Accepted text job room
unfolding obj_refusal too_large
accepted text job room h =
    let v = length (corners_of text) in
    let p = length (faces_of text) in
    let a = both_passed (line_refusal text) _ h in
    let b = past (ltb 16384 v || ltb 4096 p) TooLarge _ a.1 in
    let c = past (not (eqb job 128)) BadJob _ b.1 in
    let d = past (ltb room (24 * v + 80 * p + 144)) OutputTooShort (Ok tt) c.1 in
    let n = neither (ltb 16384 v) (ltb 4096 p) b.0 in
    record {
      lines = a.0;
      corners_most = ltb-false 16384 v n.0;
      faces_most = ltb-false 4096 p n.1;
      job_long = eqb-true job 128 (not-false (eqb job 128) c.0);
      room_enough = ltb-false room (24 * v + 80 * p + 144) d.0;
    }

-- ---- the answer
pub converts_refused : (text job out : List ℕ) (d : Refusal) → Err d ≡ obj_refusal text (length job) (length out) → Converts text job out out (Err d)
unfolding accepts number_of length_of
converts_refused text job out d e = record {
  answer = ap (λ (q : Result ⊤ Refusal). result_and q (Ok (length (part_file text job)))) e;
  number = ap (λ (q : Result ⊤ Refusal). number_of q) e;
  size = ap (λ (q : Result ⊤ Refusal). cond (is_ok q) (length (part_file text job)) 0) e;
  buffer = ap (λ (q : Result ⊤ Refusal). cond (is_ok q) (part_file text job ++ drop (length (part_file text job)) out) out) e;
}

pub converts_written : (text job before after : List ℕ) (n : ℕ) → Ok tt ≡ obj_refusal text (length job) (length before) → Written text job before after n → Converts text job before after (Ok n)
unfolding accepts number_of length_of
converts_written text job before after n e w = record {
  answer = ap (λ (i : ℕ). Ok i) w.length_is ∙ ap (λ (q : Result ⊤ Refusal). result_and q (Ok (length (part_file text job)))) e;
  number = ap (λ (q : Result ⊤ Refusal). number_of q) e;
  size = w.length_is ∙ ap (λ (q : Result ⊤ Refusal). cond (is_ok q) (length (part_file text job)) 0) e;
  buffer = w.buffer_is ∙ ap (λ (q : Result ⊤ Refusal). cond (is_ok q) (part_file text job ++ drop (length (part_file text job)) before) before) e;
}
