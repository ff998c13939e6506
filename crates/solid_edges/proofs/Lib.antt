-- The laws on edges. An index of those that other crates cite, file by file.
-- ScanLaws: what the lent slices of an accepted file hold
--   owner_below, end-below, face_below   the polygon, the end and the face of a side are there
--   lent_readable, few_vertices, vertex_room
-- EdgeLaws
--   beyond_below, other_below            the faces of an edge are there
--   edge_between, between_edge           an edge is a shared segment between different faces, and back
-- NextLaws: `next_neighbour` with nothing computed
--   next_is, is_next        g + 1 is the neighbour past `after` of the lowest id, and back; next_unique
--   next_none, none_next    0 is that no side is wanted, and back
--   next-edge, next_below, next_after, next_first   it is a neighbour, comes strictly after, and passes over none
-- TourLaws: asked again and again from 0 on
--   tour_neighbour, tour_rises, tour_meets   each answer is a neighbour, they rise in their ids, and every neighbour is met
-- DistanceLaws
--   least_none, least_near, least_past    the root of the least square is the least distance
--   distance-least          the distance of some edge, with none nearer, or infinity
pub mod ScanLaws
pub mod EdgeLaws
pub mod NextLaws
pub mod TourLaws
pub mod DistanceLaws
