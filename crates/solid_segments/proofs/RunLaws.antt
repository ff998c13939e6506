-- The runs of an accepted file: whose side is whose, and where it ends.
use mathlib.Core.Path.{◌≡◌, refl, sym, ap, ◌∙◌, subst}
use mathlib.Core.Logic.{◌⊎◌, ⊎_elim}
use mathlib.Core.Bool.{Bool, true, false, cond}
use mathlib.Core.List.{List}
use Prim.Native.Nat.{ℕ, zero, suc, ◌+◌, ◌≤◌, ◌<◌}
use native.Mathlib.Numerals.{add-one}
use native.Mathlib.Omega.{arith}
use lib.Dec.{eqb, leb}
use borrow.Author.Tests.{le-leb, lt-leb, eqb-false}
use Rattle.num_float.proofs.Tests.{lt_or_ge}
use Rattle.list_laws.specs.Below.{sum_below}
use Rattle.list_laws.proofs.Below.{sum_none, sum_more, sum_within}
use Rattle.file_part.specs.Layout.{vertex_count_of, polygon_count_of, entry_at}
use Rattle.file_part.specs.Part.{count_at_of, polygon_at, Part, part_of}
use Rattle.file_ok.specs.Rules.{run_start}
use Rattle.file_ok.specs.Work.{Readable}
use Rattle.file_ok.proofs.ReadableLaws.{readable_run, readable_whole}
use Rattle.solid_segments.specs.Sides.{run_end_of, owner_of, next_of, to_of}
use Rattle.solid_segments.specs.Work.{Owned, start_of}
use Rattle.solid_keys.proofs.CountLaws.{newest}

-- ---- how many ends of runs that follow on are not above i: run p begins where those below it end
module _ (term : ℕ → ℕ) (end : ℕ → ℕ) (n : ℕ) (ends : (q : ℕ) → q < n → end q ≡ sum_below (q + 1) term) where
  starts_mono : (p q : ℕ) → p ≤ q → sum_below p term ≤ sum_below q term
  starts_mono p q l = ⊎_elim (λ e. omega (arith, sum_within q term p e)) (λ e. let same : p ≡ q = omega arith in rw same (omega arith)) (lt_or_ge p q)

  module _ (p i : ℕ) (inside : p < n) (from : sum_below p term ≤ i) (to : i < sum_below (p + 1) term) where
    abbrev passed : ℕ → ℕ
    passed q = cond (leb (end q) i) 1 0

    before : (q : ℕ) → q < p → passed q ≡ 1
    before q l = rw (le-leb (end q) i (omega (arith, ends q (omega arith), starts_mono (q + 1) p (omega arith))))

    after : (q : ℕ) → p ≤ q → q < n → passed q ≡ 0
    after q l m = rw (lt-leb (end q) i (omega (arith, ends q m, starts_mono (p + 1) (q + 1) (omega arith))))

    count_before : (m : ℕ) → m ≤ p → sum_below m passed ≡ m
    count_before zero l = sum_none passed
    count_before (suc m) l = rw (← add-one m, sum_more m passed, count_before m (omega arith), before m (omega arith))

    count_after_lem : (m : ℕ) → p ≤ m → m ≤ n → sum_below m passed ≡ p
    count_after_lem zero a b = sum_none passed ∙ omega arith
    count_after_lem (suc m) a b =
        ⊎_elim
        (λ e. rw (← e) (count_before p (omega arith)))
        (λ l. rw (← add-one m, sum_more m passed, count_after_lem m (omega arith) (omega arith), after m (omega arith) (omega arith)) (omega arith))
        (newest_run p m a)
      where
        newest_run : (p m : ℕ) → p ≤ suc m → (p ≡ suc m) ⊎ (p < suc m)
        newest_run p m l = newest p (suc m) (omega arith)

-- ---- an accepted file
pub first_start : (file : List ℕ) → start_of file 0 ≡ 0
unfolding run_start
first_start file = sum_none (λ q. count_at_of file (entry_at (vertex_count_of file) q))

module _ (file : List ℕ) (readable : Readable file) where
  abbrev v : ℕ
  v = vertex_count_of file

  abbrev t : Part
  t = part_of file

  abbrev start : ℕ → ℕ
  start p = run_start file v p

  -- a run ends where the next begins
  pub next_start : (p : ℕ) → start (p + 1) ≡ start p + count_at_of file (entry_at v p)
  unfolding run_start
  next_start p = sum_more p (λ q. count_at_of file (entry_at v q))

  run_end : (p : ℕ) → p < polygon_count_of file → run_end_of t p ≡ start (p + 1)
  unfolding run_end_of part_of polygon_at
  run_end p l = ap (λ (k : ℕ). k + count_at_of file (entry_at v p)) (readable_run file readable p l).first ∙ sym (next_start p)

  run_first : (p : ℕ) → p < polygon_count_of file → (t.polygon p).first ≡ start p
  unfolding part_of polygon_at
  run_first p l = (readable_run file readable p l).first

  pub start_inside : (p : ℕ) → p < polygon_count_of file → start (p + 1) ≤ v
  start_inside p l = omega (arith, next_start p, (readable_run file readable p l).inside)

  -- side s is in the run of polygon p
  module _ (p s : ℕ) (inside : p < polygon_count_of file) (from : start p ≤ s) (before : s < start (p + 1)) where
    -- so it is of that polygon
    pub owner_is : owner_of t s ≡ p
    unfolding owner_of part_of run_start
    owner_is =
        count_after_lem (λ q. count_at_of file (entry_at v q)) (run_end_of t) (polygon_count_of file) (λ q l. run_end q l)
        p s inside from before (polygon_count_of file) (omega arith) (omega arith)

    -- and ends at the next vertex of that run
    pub to_is : to_of t s ≡ next_of (start p) (start (p + 1)) s
    unfolding to_of
    to_is = rw owner_is (ap (λ (k : ℕ). next_of k (run_end_of t p) s) (run_first p inside) ∙ ap (λ (k : ℕ). next_of (start p) k s) (run_end p inside))

    next_inside : next_of (start p) (start (p + 1)) s < v
    unfolding next_of
    next_inside = go (eqb (s + 1) (start (p + 1))) refl
      where
        go : (b : Bool) → eqb (s + 1) (start (p + 1)) ≡ b → cond b (start p) (s + 1) < v
        go true e = omega (arith, start_inside p inside)
        go false e = omega (arith, start_inside p inside, eqb-false (s + 1) (start (p + 1)) e)

    pub to_inside : to_of t s < v
    to_inside = subst (λ (k : ℕ). k < v) (sym to_is) next_inside

    owned : Owned t s
    unfolding part_of
    owned =
        record {
          low = subst (λ (k : ℕ). k < polygon_count_of file) (sym owner_is) inside;
          from = subst (λ (k : ℕ). (t.polygon k).first ≤ s) (sym owner_is) (omega (arith, run_first p inside));
          before = subst (λ (k : ℕ). s < run_end_of t k) (sym owner_is) (omega (arith, run_end p inside));
          to = to_inside;
        }

  -- each side is in a run
  find_run : (s m : ℕ) → m ≤ polygon_count_of file → s < start m → Owned t s
  find_run s zero l h = absurd (omega (arith, first_start file))
  find_run s (suc m) l h =
      ⊎_elim
      (λ below. find_run s m (omega arith) below)
      (λ from. owned m s (omega arith) from (rw add-one h))
      (lt_or_ge s (start m))

  pub side_owned : (s : ℕ) → s < v → Owned t s
  side_owned s l = find_run s (polygon_count_of file) (omega arith) (omega (arith, readable_whole file readable))
