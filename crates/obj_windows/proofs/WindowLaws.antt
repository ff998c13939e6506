-- Windows of vertices, by one coordinate.
use mathlib.Core.Path.{◌≡◌, refl, sym, ap, ◌∙◌}
use mathlib.Core.List.{List}
use Prim.Native.Nat.{ℕ, ◌+◌, ◌-◌, ◌≤◌, ◌<◌}
use native.Mathlib.Decide.{dec_le}
use native.Mathlib.Omega.{arith}
use lib.ListN.{length, get_or, set, length-set}
use lib.Seq.{get_or-set_same, get_or-set_other}
use lib.Ieee.{Float, nan}
use borrow.Author.Tests.{lt-ltb, le-ltb, le-leb, lt-leb}
use Rattle.math.specs.declared.Vec3.{Vec3}
use Rattle.obj_text.specs.Text.{origin}
use Rattle.obj_windows.specs.Work.{picked, Flushed, Axis}

-- ---- the coordinate of a corner
module _ (slots : List Float) (base count number : ℕ) (old : Float) where
  pub pick_before : number ≤ base → picked slots base count number old ≡ old
  unfolding picked
  pick_before h = rw (le-ltb base number h)

  pub pick_inside : base < number → number ≤ base + count → picked slots base count number old ≡ get_or slots (number - base - 1) nan
  unfolding picked
  pick_inside h k = rw (lt-ltb base number h, le-leb number (base + count) k)

  pub pick_after : base < number → base + count < number → picked slots base count number old ≡ old
  unfolding picked
  pick_after h k = rw (lt-ltb base number h, lt-leb number (base + count) k)

-- ---- a flush, corner by corner
pub record Passed (numbers : List ℕ) (c base : ℕ) (slots : List Float) (count : ℕ) (before now : List Float) : Type 0 where
  pub long : length now ≡ length before
  pub done : (k : ℕ) → k < c → get_or now k nan ≡ picked slots base count (get_or numbers k 0) (get_or before k nan)
  pub left : (k : ℕ) → c ≤ k → get_or now k nan ≡ get_or before k nan

pub passed_none : (numbers : List ℕ) (base : ℕ) (slots : List Float) (count : ℕ) (l : List Float) → Passed numbers 0 base slots count l l
passed_none numbers base slots count l = record { long = refl; done = λ k h. absurd (omega (arith, h)); left = λ k h. refl }

module _ {numbers : List ℕ} {c base : ℕ} {slots : List Float} {count : ℕ} {before now : List Float} (p : Passed numbers c base slots count before now) where
  pub passed_more : (v : Float) → c < length now → v ≡ picked slots base count (get_or numbers c 0) (get_or now c nan) → Passed numbers (c + 1) base slots count before (set now c v)
  passed_more v h e = record {
    long = length-set now c v ∙ p.long;
    done = λ k g. go k g (dec_le c k);
    left = λ k g. get_or-set_other now c k v nan (λ (q : k ≡ c). omega (arith, g, q)) ∙ p.left k (omega (arith, g));
  }
    where
      here : (k : ℕ) → k ≡ c → get_or (set now c v) k nan ≡ picked slots base count (get_or numbers k 0) (get_or before k nan)
      here k q =
          ap (λ (i : ℕ). get_or (set now c v) i nan) q
          ∙ get_or-set_same now c v nan h
          ∙ e
          ∙ ap (picked slots base count (get_or numbers c 0)) (p.left c (omega arith))
          ∙ ap (λ (i : ℕ). picked slots base count (get_or numbers i 0) (get_or before i nan)) (sym q)

      go : (k : ℕ) → k < c + 1 → Dec (c ≤ k) → get_or (set now c v) k nan ≡ picked slots base count (get_or numbers k 0) (get_or before k nan)
      go k g (yes q) = here k (omega (arith, g, q))
      go k g (no q) = get_or-set_other now c k v nan (λ (x : k ≡ c). q (omega (arith, x))) ∙ p.done k (omega (arith, q))

  pub passed_all : (used : ℕ) → used ≤ c → Flushed numbers used base slots count before now
  passed_all used h = record { same_length = p.long; each = λ k g. p.done k (omega (arith, g)) }

-- ---- one coordinate of all vertices
module _ {f : Vec3 → Float} {vs : List Vec3} {numbers : List ℕ} {used base count : ℕ} {slots corners : List Float} (a : Axis f vs numbers used base count slots corners) where
  -- after a flush the window is empty
  pub axis_flush : (after : List Float) → Flushed numbers used base slots count corners after → Axis f vs numbers used (base + count) 0 slots after
  axis_flush after p = record {
    slots_long = a.slots_long;
    corners_long = p.same_length ∙ a.corners_long;
    slot = λ j h. absurd (omega (arith, h));
    corner = λ c h one most. p.each c h ∙ go c h one most (dec_le (get_or numbers c 0) base);
  }
    where
      go : (c : ℕ) → c < used → 1 ≤ get_or numbers c 0 → get_or numbers c 0 ≤ base + count → Dec (get_or numbers c 0 ≤ base)
          → picked slots base count (get_or numbers c 0) (get_or corners c nan) ≡ f (get_or vs (get_or numbers c 0 - 1) origin)
      go c h one most (yes q) = pick_before slots base count (get_or numbers c 0) (get_or corners c nan) q ∙ a.corner c h one q
      go c h one most (no q) =
          let n = get_or numbers c 0 in
          let more : base < n = omega (arith, q) in
          let place : base + (n - base - 1) ≡ n - 1 = omega (arith, q) in
          pick_inside slots base count n (get_or corners c nan) more most
          ∙ a.slot (n - base - 1) (omega (arith, q, most))
          ∙ ap (λ (i : ℕ). f (get_or vs i origin)) place
