-- `solid_boxes::order::swap` meets its contract.
use mathlib.Core.Path.{refl}
use lib.ListN.{length-set}
use Rattle.solid_boxes.proofs.order.swap.Goals as goal

pub bounds-words-a : goal.bounds-words-a
bounds-words-a c = c.requires.fact_1

pub bounds-words-b : goal.bounds-words-b
bounds-words-b c = c.requires.fact_2

pub bounds-words-a-2 : goal.bounds-words-a-2
bounds-words-a-2 c = c.requires.fact_1

pub bounds-words-b-2 : goal.bounds-words-b-2
bounds-words-b-2 c = simp length-set c.requires.fact_2

pub returns : goal.returns
returns c = refl
