-- The laws behind the program.
--   enough   the scratch that it lends is enough for every file that it reads: 10 is not met
--   printed_long, printed_answer   what it prints, return by return
pub mod Enough
pub mod ProgramLaws
