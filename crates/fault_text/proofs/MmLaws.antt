-- A length's text: its places by the test of 0.1 mm, and that a length that the decimal writer takes with two places is taken as it is written.
use mathlib.Core.Path.{◌≡◌}
use mathlib.Core.Bool.{Bool, true, false, cond}
use lib.Ieee.{Float, lt}
use Rattle.num_text.specs.Decimal.{accepted}
use Rattle.fault_text.specs.Text.{tenth, mm_places}

pub places_below : (x : Float) → lt x tenth ≡ true → 3 ≡ mm_places x
unfolding mm_places
places_below x e = rw e

pub places_from : (x : Float) → lt x tenth ≡ false → 2 ≡ mm_places x
unfolding mm_places
places_from x e = rw e

-- the writer takes up to three places, so with three it takes the same numbers as with two
pub mm_accepted : (x : Float) → accepted x 2 ≡ true → accepted x (mm_places x) ≡ true
unfolding mm_places accepted
mm_accepted x h = go (lt x tenth)
  where
    go : (b : Bool) → accepted x (cond b 3 2) ≡ true
    go true = h
    go false = h
