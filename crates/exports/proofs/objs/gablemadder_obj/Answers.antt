-- `exports::objs::gablemadder_obj` meets its contract, by the laws of `Obj.antt`.
use Rattle.exports.proofs.Obj.{told_file, told_none}
use Rattle.exports.proofs.objs.gablemadder_obj.Goals as goal

pub returns-in-Ok : goal.returns-in-Ok
returns-in-Ok c = told_file _ _ _ c.obj_to_part.ensures c.in-Ok.is

pub returns-in-Err : goal.returns-in-Err
returns-in-Err c = rw c.number.ensures (told_none _ _ _ c.obj_to_part.ensures c.in-Err.is)
