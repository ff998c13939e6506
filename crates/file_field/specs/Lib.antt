-- What the bytes of a part file say, and the tests of single fields.
pub mod Field
pub mod Test
pub mod Direction
-- Passed on to the crates above.
pub use Rattle.math
