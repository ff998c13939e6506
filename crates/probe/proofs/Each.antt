-- A loop that has put f of each of the first i elements in its place: how it starts, goes on and ends.
use mathlib.Core.Path.{◌≡◌, refl, ap, ◌∙◌}
use mathlib.Core.List.{List}
use mathlib.Core.Logic.{◌≢◌}
use Prim.Native.Nat.{ℕ, ◌+◌, ◌≤◌, ◌<◌}
use native.Mathlib.Omega.{arith}
use borrow.Author.Count.{below_more}
use lib.ListN.{length, get_or, set, length-set}
use lib.Seq.{get_or-set_same, get_or-set_other}
use lib.Ieee.{Float, nan}
use Rattle.probe.specs.Each.{Each}

pub record Done (f : Float → Float) (i : ℕ) (before l : List Float) : Type 0 where
  pub same_length : length l ≡ length before
  pub done : (k : ℕ) → k < i → get_or l k nan ≡ f (get_or before k nan)
  pub rest : (k : ℕ) → i ≤ k → get_or l k nan ≡ get_or before k nan

pub none : (f : Float → Float) (l : List Float) → Done f 0 l l
none f l = record { same_length = refl; done = λ k h. absurd (omega arith); rest = λ k h. refl }

before_i : (k i : ℕ) → k < i → k ≢ i
before_i k i h e = omega arith

after_i : (k i : ℕ) → i + 1 ≤ k → k ≢ i
after_i k i h e = omega arith

pub more : (f : Float → Float) (i : ℕ) (b l : List Float) (x : Float) → i < length l → x ≡ f (get_or l i nan) → Done f i b l → Done f (i + 1) b (set l i x)
more f i b l x h e d = record {
  same_length = length-set l i x ∙ d.same_length;
  done = below_more _ i (λ k s. get_or-set_other l i k x nan (before_i k i s) ∙ d.done k s)
      (get_or-set_same l i x nan h ∙ e ∙ ap f (d.rest i (omega arith)));
  rest = λ k s. get_or-set_other l i k x nan (after_i k i s) ∙ d.rest k (omega arith);
}

pub all : (f : Float → Float) (i : ℕ) (b l : List Float) → length b ≤ i → Done f i b l → Each f b l
all f i b l h d = record { same_length = d.same_length; at = λ k s. d.done k (omega arith) }
