-- Laws on the check of a part.
-- OutcomeLaws: from what each step leaves to the outcome
--   rows_many, rows-few, faults_fit   the rows that cells and numbers hold
--   ready_taken             rows put and taken back are those that were found
--   outcome                 the outcome of a check
--   leaves                  a branch that leaves the function, in code that is followed statement by statement
-- Demands, for readers: what an outcome says
--   answer_number, accepted_zero, zero_accepted         the number of an answer
--   report_alone, report_length                         the report is the file's alone
--   reading_near, reading_nearer                        how far the readings of an accepted check are off
--   outcome_only            the outcome is the only one of a call
pub mod OutcomeLaws
pub mod Demands
