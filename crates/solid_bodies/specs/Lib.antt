-- The bodies of a part, and what the functions on the way say.
--   Body      Chain, Touch, Lowest: what a body is; touches, bodyOf: the same by trying everything; Labels: its number at each polygon
--   Work      the corners of a part in a list, the table of slots, the memory; Work/Forest: a forest of parents and what its functions do
pub mod Body
pub mod Work
-- Passed on to the crates above.
pub use Rattle.solid_segments
