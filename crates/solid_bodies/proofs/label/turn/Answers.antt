-- `solid_bodies::label::turn` meets its contract.
use Prim.Native.Nat.{ℕ, ◌+◌, ◌*◌}
use native.Mathlib.Omega.{arith}
use mathlib.Core.Path.{sym, ap, subst, subst₂, ◌∙◌}
use mathlib.Core.List.{List}
use lib.ListN.{length, take}
use lib.Seq.{length-take-le}
use Rattle.list_laws.specs.Region.{part}
use Rattle.list_laws.proofs.Regions.{part_length}
use Rattle.solid_bodies.specs.Work.Forest.{Linked}
use Rattle.solid_bodies.specs.Work.{key_at}
use Rattle.solid_bodies.proofs.TableLaws.{slot_in}
use Rattle.solid_bodies.proofs.StepLaws.{Tied, tied_none, tied_some, step_turn}
use Rattle.solid_bodies.proofs.label.turn.Goals.{in-Some, in_default}
use Rattle.solid_bodies.proofs.label.turn.Goals as goal

pub push-requires-clause-fact_2 : goal.push-requires-clause-fact_2
push-requires-clause-fact_2 c =
    let corners : List ℕ = part c.args.p (c.args.p + 4 * c.args.n) c.args.mem.now in
    omega (arith, c.slot-h.ensures, slot_in c.args.n (key_at c.args.n corners c.args.v) (omega (arith, c.requires.fact_3)))

pub returns : goal.returns
returns c =
    let p = c.args.p in
    let n = c.args.n in
    let mem = c.args.mem.now in
    let v = c.args.v in
    let labels = take p mem in
    let room = c.requires.fact_1.room in
    let tied : Tied p n mem c.match-find.mem (v + 1) = elim c.match-find.branch [
      | in-Some w ↦
          subst (λ (t : List ℕ). Tied p n mem t (v + 1)) (sym w.mem-is)
          (tied_some p n mem w.link.new.parents w.in-Some.u v room (w.link.auto.parents ∙ length-take-le p mem (omega arith)) c.requires.fact_3 c.requires.fact_2
          w.in-Some.ensures (subst₂ (Linked labels w.link.new.parents) w.owner-i.ensures w.owner-j.ensures w.link.ensures))
      | in_default w ↦ subst (λ (t : List ℕ). Tied p n mem t (v + 1)) (sym w.mem-is) (tied_none c.requires.fact_2 w.in_default.ensures)
    ] in
    step_turn p n mem c.match-find.mem c.push.new.table room (c.push.auto.table ∙ ap length tied.table ∙ part_length _ _ mem room) v c.slot-h.result c.requires.fact_3 c.requires.fact_2 c.slot-h.ensures tied
    c.push.ensures
