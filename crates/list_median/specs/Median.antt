-- dfm.rs's `weighted_median`: the value at half the total weight. A pair of value and weight is a number; xs are the numbers of some pairs.
-- Definitions only.
use Rattle.std.specs.Prelude.{◌≡◌, cond, List, ℕ, zero, suc, ◌-◌, min, eqb, length, get_or, take, Float}
use Rattle.std.specs.Float.{binary64, nan}
use Rattle.std.specs.Float.Ieee.{add, mul, le, of_bits}
use Rattle.list_laws.specs.Below.{lowest_below}
use Rattle.list_sort.specs.Sorted.{SortedBy, in_order_of}

-- the f64 0.0 and 0.5
abbrev pub nought : Float
nought = of_bits binary64 0

abbrev pub half : Float
half = of_bits binary64 0x3fe0_0000_0000_0000

-- the weights of the first k pairs, added from 0.0 on: `acc`
unfoldable pub weight_to : List Float → List ℕ → ℕ → Float
weight_to weights xs zero = nought
weight_to weights xs (suc k) = add binary64 (weight_to weights xs k) (get_or weights (get_or xs k 0) nan)

-- the first of n pairs with which the weights come to a bound; n where none does
unfoldable pub reached_at : List Float → List ℕ → ℕ → Float → ℕ
reached_at weights xs n bound = lowest_below n (λ k. le bound (weight_to weights xs (suc k)))

-- of n pairs in order, the value of the first with which the weights come to half of all, `acc >= 0.5 * total`; where none does, of the last;
-- 0.0 where there is no pair
unfoldable pub halfway : List Float → List Float → List ℕ → ℕ → Float
halfway values weights xs n =
    cond (eqb n 0) nought (get_or values (get_or xs (min (reached_at weights xs n (mul binary64 half (weight_to weights xs n))) (n - 1)) 0) nan)

-- the pairs go by rising value; where values are equal, by their numbers. The total is over the pairs in this order
unfoldable pub median_of : List Float → List Float → List ℕ → Float
median_of values weights xs = halfway values weights (in_order_of values xs) (length xs)

-- the answer r: the first n cells are sorted by value, and what comes 2n cells after the start is as it was
pub record Median (values weights : List Float) (n : ℕ) (before after : List ℕ) (r : Float) : Type 0 where
  pub is : r ≡ median_of values weights (take n before)
  pub sorted : SortedBy values n before after
  pub long : length after ≡ length before
