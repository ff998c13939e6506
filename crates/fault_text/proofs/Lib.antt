-- Laws that callers and the proofs of several functions use.
-- JobLaws: the job in the file
--   min_wall_zero                       a material's min_wall of 0 counts as 0.8
--   min_wall_accepted                   the thinnest wall of an accepted file is a number that is printed
--   name_short, ratio_to                the name of an accepted file has at most 40 bytes, its bend ratio is at most 100,000
--   job-is, checked_length, job_room, wall-.., name-..  the steps of the functions that read it
-- SettingsLaws: what printing takes from the job of an accepted file
--   settings_good_lem                       its ranges
--   layer_accepted, two_layers_accepted, nozzle_accepted, print_wall_accepted, print_hole_accepted, limit_accepted    numbers that are printed
-- MmLaws: a length's text
--   places_below, places_from           its places
--   mm_accepted                         a length that the decimal writer takes with two places is taken as it is written
-- LengthLaws: how long texts are
--   text_short, checked_short           at most 255 bytes where the flaw is printed, by the lengths of name and ratio, and for an accepted file
-- ToldLaws: flaws and their rows
--   row-told                            a flaw's row means the flaw as it is told
--   layer_told, few_layers_told, nozzle_told, print_thin_wall_told, print_small_hole_told, overhang_told     texts, with the job as it was read
--   good_count                          the count of the row of a flaw that is printed
--   told_length, told-at, told_append   lists of flaws
pub mod JobLaws
pub mod SettingsLaws
pub mod MmLaws
pub mod LengthLaws
pub mod ToldLaws
