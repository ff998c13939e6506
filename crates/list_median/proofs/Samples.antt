-- Medians computed.
use mathlib.Core.Path.{◌≡◌, refl}
use mathlib.Core.List.{[], ◌∷◌}
use lib.Ieee.{Float, binary64, of_bits, lt, le, add, mul}
use Rattle.list_median.specs.Median.{nought, weight_to, reached_at, halfway, median_of}
use Rattle.list_sort.specs.Sorted.{comes, put, in_order_of}
use Rattle.list_laws.specs.Below.{lowest_below}

-- the f64 1, 2 and 4
abbrev one : Float
one = of_bits binary64 0x3ff0_0000_0000_0000

abbrev two : Float
two = of_bits binary64 0x4000_0000_0000_0000

abbrev four : Float
four = of_bits binary64 0x4010_0000_0000_0000

-- no pair
none : median_of [] [] [] ≡ nought
unfolding median_of halfway in_order_of
none = refl

-- three pairs of one weight: the middle value
middle : median_of (four ∷ one ∷ two ∷ []) (one ∷ one ∷ one ∷ []) (0 ∷ 1 ∷ 2 ∷ []) ≡ two
unfolding median_of halfway reached_at weight_to lowest_below in_order_of put comes of_bits lt le add mul
middle = refl

-- two pairs of one weight: the weights come to half with the lesser value, `acc >= 0.5 * total`
lesser : median_of (four ∷ one ∷ []) (two ∷ two ∷ []) (0 ∷ 1 ∷ []) ≡ one
unfolding median_of halfway reached_at weight_to lowest_below in_order_of put comes of_bits lt le add mul
lesser = refl

-- a heavy pair
heavy : median_of (four ∷ one ∷ two ∷ []) (four ∷ one ∷ one ∷ []) (0 ∷ 1 ∷ 2 ∷ []) ≡ four
unfolding median_of halfway reached_at weight_to lowest_below in_order_of put comes of_bits lt le add mul
heavy = refl
