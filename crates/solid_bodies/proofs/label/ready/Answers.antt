-- `solid_bodies::label::ready` meets its contract.
use Prim.Native.Nat.{◌+◌, ◌*◌}
use native.Mathlib.Omega.{arith}
use mathlib.Core.Path.{◌≡◌, ◌∙◌}
use lib.ListN.{length, drop}
use lib.Seq.{length-take-le}
use mathlib.Core.List.{◌++◌}
use Rattle.list_laws.specs.Region.{part}
use Rattle.list_laws.proofs.Fill.{filled_at}
use Rattle.solid_bodies.proofs.StepLaws.{step_ready, table_long}
use Rattle.solid_bodies.proofs.label.ready.Goals as goal

pub returns : goal.returns
returns c =
    let p = c.args.p in
    let n = c.args.n in
    let mem = c.args.mem.now in
    let p-long : length c.start.new.parents ≡ p = c.start.auto.parents ∙ length-take-le p mem (omega (arith, c.requires.room)) in
    let before = part (p + 4 * n) (p + 4 * n + 2 * n) (c.start.new.parents ++ drop p mem) in
    let long = table_long p n mem c.start.new.parents c.requires.room p-long in
    step_ready p n mem c.start.new.parents c.fill.new.cells c.requires.room p-long (c.fill.auto.cells ∙ long) c.start.ensures
    (λ h l. filled_at c.fill.new.cells (length before) 0 0 c.fill.ensures h (omega (arith, long)))
