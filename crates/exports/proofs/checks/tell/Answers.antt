-- `exports::checks::tell` meets its contract, by the laws of `Check.antt`.
use Rattle.std.proofs.Common.{◌∙◌}
use Rattle.exports.proofs.Check.{tell_accepted, tell_refused}
use Rattle.exports.proofs.checks.tell.Goals as goal

pub returns-in-Ok : goal.returns-in-Ok
returns-in-Ok c = tell_accepted _ _ _ c.in-Ok.is

pub returns-in-Err : goal.returns-in-Err
returns-in-Err c =
    let told = tell_refused c.args.answer c.in-Err.refusal c.args.written.now c.in-Err.is in
    (c.number.ensures ∙ told.0, told.1)
