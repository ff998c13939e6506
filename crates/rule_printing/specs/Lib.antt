-- The faults of printing.
pub mod Closed
pub mod Rules
pub mod All
pub mod Work
-- Passed on to the crates above.
pub use Rattle.print_walls
