-- The printed report, and what the function that writes it leaves.
pub mod Text
pub mod Report
pub mod Work
-- Passed on to the crates above.
pub use Rattle.report_faces.specs.fault_merge
pub use Rattle.report_faces.specs.fault_text
pub use Rattle.report_faces
