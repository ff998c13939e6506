-- The walls, floors and roofs of a print.
pub mod Walls
pub mod Work
-- Passed on to the crates above.
pub use Rattle.fault_text
