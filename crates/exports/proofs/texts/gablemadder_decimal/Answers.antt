-- `exports::texts::gablemadder_decimal` meets its contract, by the laws of `Decimal.antt`.
use borrow.Author.Rules.{rules}
use Rattle.exports.proofs.Decimal.{told_written, told_refused}
use Rattle.exports.proofs.texts.gablemadder_decimal.Goals as goal

pub returns-in-Ok : goal.returns-in-Ok
returns-in-Ok c = told_written _ _ _ c.decimal.ensures c.in-Ok.is

pub returns-in-Err : goal.returns-in-Err
returns-in-Err c = rw c.number.ensures (told_refused _ _ _ c.decimal.ensures c.in-Err.is)
