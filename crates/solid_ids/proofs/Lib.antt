-- The laws on the ids of faces. Other crates cite these:
-- IdLaws
--   first_begins, first-below, first_number   the first polygon of a face below faces_of
--   ids_apart               faces of different numbers have different ids
--   id_irreflexive, id_transitive, id_total, face_irreflexive, face_transitive, face_total   the order of ids, and of faces
-- KnownLaws: what the lent slice of faces holds
--   known_readable, trailer, few_faces        the file is accepted, and has at most 1,024 faces
pub mod IdLaws
pub mod KnownLaws
