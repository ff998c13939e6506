-- From an answer to the bytes that are printed of it.
pub mod PrintLaws
