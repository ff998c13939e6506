-- The laws on the sorted edges. Other crates cite these:
-- EdgeLaws: the lists of specs/Tours.antt in the words of crate solid_edges
--   of_edge, edge-of                    the edges of a face are the sides of which `is_edge_of_word` holds
--   between_edge, edge_between          so those between two faces; between_of, between_leads, leads_between: and `is_between`
--   first-edge                          the first between two faces is `first_between`
--   edge_least, between_least           the least distances are `edge_distance` and `between_distance`; between_beyond: not below the root of a square that none is below
-- NeighbourLaws
--   neighbour_is, neighbour_over        the list of neighbours is `neighbour_at` from 0 on, up to the first 0
--   neighbour_mem                       every face that an edge leads to is in it
-- TourLaws: the functions of `tour`
--   tour_start, tour_more, tour_end     a tour of the neighbours meets `over_neighbours`; rest-all: all places are left at its start
--   sides_none, sides_more, sides_mem   the edges at some places
--   place_edge, place_between, group_first      what stands at the places of a face and of a group
-- KeptLaws: ordered_kept                the edges still stand after changes past them
-- PackLaws: edges_sorted                what is packed is sorted; and the steps of `pack`
-- BoxLaws: the steps of `boxes`
-- LeastLaws: same_least, least_distance_lem         the least of some squared distances, in whatever order
-- FewEdges: items_most                  there are no more items than sides
-- PutLaws: still_standing, still_ranked, and the steps of `order`. Passing, ItemLaws, PlaceLaws: the items and their places
pub mod Passing
pub mod FewEdges
pub mod ItemLaws
pub mod PutLaws
pub mod PlaceLaws
pub mod PackLaws
pub mod LeastLaws
pub mod EdgeLaws
pub mod TourLaws
pub mod BoxLaws
pub mod NeighbourLaws
pub mod KeptLaws
