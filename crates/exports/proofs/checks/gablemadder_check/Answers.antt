-- `exports::checks::gablemadder_check` meets its contract.
use Rattle.exports.proofs.checks.gablemadder_check.Goals as goal

pub returns : goal.returns
returns c =
    record {
      answer = c.check-answer.result;
      outcome = c.check-answer.ensures;
      refusal = c.tell.ensures.0;
      written = c.tell.ensures.1;
    }
