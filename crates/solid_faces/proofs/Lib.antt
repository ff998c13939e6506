-- The laws on the body of a part. Other crates cite these:
-- FaceLaws: which polygons are of one face, and how faces are numbered
--   same_is, is-same        `same_face` is equality
--   first_le, first_same, first_least, first_new        the first polygon of a face
--   number_below            a face's number is below the number of faces
--   number-same, same-number                            one number is one face
--   first_polygon_lem           the first polygon by the face's number; first_polygon_begins: each number below the number of faces has one
-- CountLaws: few_faces                 no more faces than polygons
-- ChainLaws: a loop over the polygons of a face by the chain
--   OnFace, on_first, on_next, on_rises                 what is known at each polygon of the loop
--   fold_first, on_fold                                 what changes only at the face's polygons is the same at the next one
--   next_rises              the next polygon is above; next-here, next_other, next_end: the chain from the last polygon down
-- BodyLaws: a file that none of refusals 1 to 9 turns back
--   checked_readable, checked_flat, checked_faces       none of 1 to 7, no flat polygon, at most 1,024 faces
--   three_vertices          three vertices for each polygon
--   checked_number, number_room                         a face's number is below 1,024, and below a length that holds all faces
--   readable_long, entry_room, run-room, polygons_are   room in the file, in the words of the functions that read it
--   run_flat, run_plane, run_area, face_is              a polygon of the part, in the same words
-- FirstLaws, TableLaws, KeptLaws: the steps of the functions here
pub mod FaceLaws
pub mod CountLaws
pub mod ChainLaws
pub mod FirstLaws
pub mod TableLaws
pub mod BodyLaws
pub mod KeptLaws
