-- `rule_flanges::reach::Line::away` meets its contract: the offset less its part along the line.
use Rattle.rule_flanges.proofs.ReachLaws.{away_is}
use Rattle.rule_flanges.proofs.reach.Line.away.Goals as goal

pub returns : goal.returns
returns c = away_is _ _ _ _ _ _ _ _ c.sub-d.ensures c.dot.ensures c.mul.ensures c.sub.ensures c.length.ensures
