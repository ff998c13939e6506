-- `wall_median::put_numbers` meets its contract.
use Rattle.wall_median.proofs.NumberLaws.{numbers_none, numbers_more, numbers_all}
use Rattle.wall_median.proofs.put_numbers.Goals as goal

pub loop-i-init : goal.loop-i-init
loop-i-init c = numbers_none _ _

pub loop-i-preserved : goal.loop-i-preserved
loop-i-preserved c = numbers_more _ _ _ _ _ c.requires.fact_1 c.loop-i-test.true c.loop-i.invariant

pub shape_of-words : goal.shape_of-words
shape_of-words c = c.loop-i.invariant.kept.long

pub returns : goal.returns
returns c = numbers_all _ _ _ _ _ c.loop-i.auto.i-end c.loop-i-test.false c.loop-i.invariant
