-- Shares and steps computed.
use mathlib.Core.Path.{◌≡◌, refl}
use lib.Ieee.{Float, binary64, of_bits, mul, div}
use Rattle.num_real.specs.Rounding.{ceil_usize_of}
use Rattle.wall_starts.specs.Starts.{share, step_of}

-- the f64 0, 1, 2 and 1e-9
abbrev nought : Float
nought = of_bits binary64 0

abbrev one : Float
one = of_bits binary64 0x3ff0_0000_0000_0000

abbrev two : Float
two = of_bits binary64 0x4000_0000_0000_0000

abbrev e_9 : Float
e_9 = of_bits binary64 0x3e11_2e0b_e826_d695

-- half of the area, hardly any, and none
half : share one two ≡ 300
unfolding share ceil_usize_of of_bits mul div
half = refl

least : share e_9 one ≡ 1
unfolding share ceil_usize_of of_bits mul div
least = refl

none : share nought one ≡ 1
unfolding share ceil_usize_of of_bits mul div
none = refl

-- every third of seven polygons where two are wanted; each where there are fewer than wanted
third : step_of 7 2 ≡ 3
unfolding step_of
third = refl

each : step_of 7 300 ≡ 1
unfolding step_of
each = refl
