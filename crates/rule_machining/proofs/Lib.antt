-- Laws that callers and the proofs of several functions use.
-- RoundLaws: the rules on a round
--   small_hole_one, .., deep_corner_one, and -none      one fault by a row, and no fault, as the functions put them
--   convex_none, hole_put, inside_put, hole_faults, inside_faults       by what the round is, one rule after the other
--   rounds_start, rounds_pass, rounds_next, rounds_end  the loop over the faces
--   kind_room, kind-fits, kind_bytes, round_there, round-room            its places and bounds
-- WallLaws: the thin walls
--   least_accepted                      the least reading of two faces is a number that is printed
--   thin_wall_one, thin_wall_none       one wall
--   met_none, met-next, met-all, wall_room              the walk over the walls
-- RuleLaws: one rule after the other
-- NoneLaws: machining_none               a part without polygons has no faults
pub mod RoundLaws
pub mod WallLaws
pub mod RuleLaws
pub mod NoneLaws
