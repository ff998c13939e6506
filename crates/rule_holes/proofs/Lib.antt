-- The laws on the holes of a sheet.
-- ChoiceLaws: chosen_first, chosen_second     what a test chooses; or_true, or_false
-- NameLaws: words in a text
--   start_is, start_short                                             whether a text begins with a word, as std compares it; not where it is shorter
--   none_start, none-found, none-more, none-end                       the loop over the places of the text
--   named_room, named_is, named-none                                  the material's name as a part of the file
-- NearestLaws: what is nearest to a hole
--   nearer_left, none_there                                           the nearer of two, and none
--   PlatesTo, plates_start, plates_more, plates_end                   a tour that marks the flat faces
--   NearestTo, nearest_start, nearest_more, nearest_end               a tour of the edges of any face; there_below: what is nearest is a face
--   group_own, group_marked, group_nearer, neighbour_flat, ..         one edge of a flat face, and one neighbour of the hole
-- LimitLaws: the limits of a sheet
--   hardened, soft, limits_are, need_is                               what they are
--   least_accepted, need_within, need_nonneg                          how large they are
-- HoleLaws: the rules on one hole
--   small-one, small_none, close_one, close_none                      one flaw by its row, and none
--   hole_alone, hole_close                                            one rule after the other
--   holes_start, holes_pass, holes_next, holes_end                    the loop over the faces; kind_room, .., hole_there: its places
pub mod ChoiceLaws
pub mod NameLaws
pub mod NearestLaws
pub mod LimitLaws
pub mod HoleLaws
