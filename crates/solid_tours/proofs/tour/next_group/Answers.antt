-- `solid_tours::tour::next_group` meets its contract: the run of the first key that is left.
use Rattle.solid_tours.proofs.PutLaws.{standing_lent}
use Rattle.solid_tours.proofs.TourLaws.{order_numbered, rest_inside, leads, next_is}
use native.Mathlib.Omega.{arith}
use Rattle.solid_tours.proofs.tour.next_group.Goals as goal

pub item_at-s-requires-clause-fact_2 : goal.item_at-s-requires-clause-fact_2
item_at-s-requires-clause-fact_2 c = omega (arith, c.requires.rest_places_2, rest_inside _ _ _ _ c.requires.edges_ordered_1 _ c.requires.edges_ordered_2 _ c.requires.rest_places_1 c.requires.rest_places_2)

pub leads_to-requires-clause-fact_1 : goal.leads_to-requires-clause-fact_1
leads_to-requires-clause-fact_1 c = standing_lent _ _ _ _ c.requires.edges_ordered_1.standing c.requires.edges_ordered_1.edged

pub group_end-end-requires-clause-fact_2 : goal.group_end-end-requires-clause-fact_2
group_end-end-requires-clause-fact_2 c = (order_numbered _ _ _ _ c.requires.edges_ordered_1 _ (rest_inside _ _ _ _ c.requires.edges_ordered_1 _ c.requires.edges_ordered_2 _ c.requires.rest_places_1 c.requires.rest_places_2)).0

pub group_end-end-requires-clause-fact_3 : goal.group_end-end-requires-clause-fact_3
group_end-end-requires-clause-fact_3 c = (order_numbered _ _ _ _ c.requires.edges_ordered_1 _ (rest_inside _ _ _ _ c.requires.edges_ordered_1 _ c.requires.edges_ordered_2 _ c.requires.rest_places_1 c.requires.rest_places_2)).1

pub unwrap-other-requires : goal.unwrap-other-requires
unwrap-other-requires c = rw (leads _ _ _ _ c.requires.edges_ordered_1 _ c.requires.edges_ordered_2 _ c.requires.rest_places_1 c.requires.rest_places_2 _ _ c.item_at-s.ensures c.leads_to.ensures)

pub returns : goal.returns
returns c = next_is _ _ _ _ c.requires.edges_ordered_1 _ c.requires.edges_ordered_2 _ c.requires.rest_places_1 c.requires.rest_places_2 _ c.group_end-end.ensures _ _ _ c.item_at-s.ensures c.leads_to.ensures c.unwrap-other.ensures
