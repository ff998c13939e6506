-- `fault_text::text::mm_places` meets its contract: the two cases of the test.
use Rattle.fault_text.proofs.MmLaws.{places_below, places_from}
use Rattle.fault_text.proofs.text.mm_places.Goals as goal

pub returns-then-x : goal.returns-then-x
returns-then-x c = places_below _ c.if-x.true

pub returns : goal.returns
returns c = places_from _ c.if-x.false
