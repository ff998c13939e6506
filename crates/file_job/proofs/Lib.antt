-- Places: what a `match` on a process knows.
pub mod Places
