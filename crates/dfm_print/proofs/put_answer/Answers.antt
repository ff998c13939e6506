-- `dfm_print::put_answer` meets its contract, case by case.
use Rattle.dfm_print.proofs.PrintLaws.{put_accepted, put_refused}
use Rattle.dfm_print.proofs.put_answer.Goals as goal

pub returns-in-Ok : goal.returns-in-Ok
returns-in-Ok c = put_accepted _ _ _ c.in-Ok.is

pub returns-in-Err : goal.returns-in-Err
returns-in-Err c = put_refused _ _ _ _ _ _ c.in-Err.is c.number.ensures c.put_refusal.ensures
