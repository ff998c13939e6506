-- `solid_bodies::label::join` meets its contract.
use native.Mathlib.Omega.{arith}
use mathlib.Core.Path.{◌∙◌}
use lib.Seq.{length-take-le}
use Rattle.solid_bodies.specs.Work.{Memory, Kept}
use Rattle.solid_bodies.proofs.StepLaws.{kept_then, memory_kept, step_end}
use Rattle.solid_bodies.proofs.label.join.Goals as goal

pub returns : goal.returns
returns c =
    let kept : Kept c.args.p c.args.n c.args.mem.now c.loop-v.mem = kept_then c.ready.ensures.kept c.loop-v.invariant.1 in
    let memory : Memory c.args.p c.args.n c.loop-v.mem = memory_kept c.requires kept in
    let s = c.args in
    let long = c.flatten.auto.parents ∙ length-take-le s.p c.loop-v.mem (omega (arith, memory.room)) in
    step_end s.p s.n s.mem.now c.loop-v.mem c.flatten.new.parents c.loop-v.v memory long kept c.loop-v.invariant.0
    c.loop-v-test.false c.flatten.ensures
