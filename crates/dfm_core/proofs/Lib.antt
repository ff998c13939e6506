-- Laws on the check of a part.
-- ToldLaws: the scratch tells the faces of every row that has many
--   told_machined, told_sheet, told_print               by process
-- FoundLaws: what is found, by the process of the job
--   stages_for, all_ask, asked, process_is, with_segments   what a process asks for
--   by_printing             FDM, SLA and SLS print
--   found-none, found_machined, found_sheet, found_print    a part without faces, and each process
-- ReportLaws: the two halves, return by return
--   by_true, by_false                                   a test that is known
--   finding_early, finding_many, finding_good           1 to 10; 11; none of them
--   ready_same, ready_kept                              the rows in other cells; what the report starts from
--   answered_refused, answered_report                   a refusal; the report, or 12
--   ended_early, ended_late                             the scratch as it was, or all zero
-- AnswerLaws: the answer by its tests
--   refusal_most, answer_after_lem                          1 to 10 end at 10; the answer from the first half's refusal
--   early_refused, early_answered                       which refusals change no buffer
--   wipe_refused, wipe_answered, wipe_fits              from which number on the rows are zeroed
--   after_keeps             12 and a report change nothing in whether buffers stay as they were
pub mod ToldLaws
pub mod FoundLaws
pub mod ReportLaws
pub mod AnswerLaws
