-- `obj_text::judge::keep_face` meets its contract: a face, and any other line.
use Rattle.obj_text.proofs.NoteLaws.{kept_face, kept_no_face}
use Rattle.obj_text.proofs.judge.keep_face.Goals as goal

pub returns-in-Face : goal.returns-in-Face
returns-in-Face c = kept_face c.args.line c.args.p c.args.index c.args.indices.now c.args.counts.now _ c.in-Face.is

pub returns-in_default : goal.returns-in_default
returns-in_default c = kept_no_face c.args.line c.args.p c.args.index c.args.indices.now c.args.counts.now c.in_default.not-Face
