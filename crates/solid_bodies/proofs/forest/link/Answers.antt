-- `solid_bodies::forest::link` meets its contract: the two roots are joined, the higher below the lower.
use Rattle.solid_bodies.proofs.ForestLaws.{link_up, link_down}
use Rattle.solid_bodies.proofs.forest.link.Goals as goal

pub returns-then-a-b : goal.returns-then-a-b
returns-then-a-b c =
    link_up _ _ _ _ _ _ _ c.root-a.ensures c.root-b.ensures c.requires.fact_2 c.requires.fact_3 c.if-a-b.true

pub returns-else-a-b : goal.returns-else-a-b
returns-else-a-b c =
    link_down _ _ _ _ _ _ _ c.root-a.ensures c.root-b.ensures c.requires.fact_2 c.requires.fact_3 c.if-a-b.false
