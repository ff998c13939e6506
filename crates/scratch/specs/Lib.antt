-- The lent scratch: its regions, what stands in them, and why nothing does.
pub mod Regions
pub mod Standing
pub mod Work
pub mod Refusal
