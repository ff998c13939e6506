-- What a fault is, the row that keeps one, and the flaws that a rule puts.
pub mod Names
pub mod Fault
pub mod Row
pub mod Flaw
pub mod Flaws
pub mod Summary
