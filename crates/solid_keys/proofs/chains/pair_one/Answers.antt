-- `solid_keys::chains::pair_one` meets its contract.
use mathlib.Core.Path.{refl}
use native.Mathlib.Omega.{arith}
use lib.ListN.{length-set}
use Rattle.solid_keys.proofs.StepLaws.{turn_of, own_step, u_room, two_step, w_room, third_step}
use Rattle.solid_keys.proofs.chains.pair_one.Goals as goal

pub returns-then-p-eq0 : goal.returns-then-p-eq0
returns-then-p-eq0 c = let r = c.requires in own_step (turn_of r.sides_1 r.sides_2 r.sides_3 r.out) _ _ refl c.if-p-eq0.true c.own_pair.ensures

pub bounds-mem-u : goal.bounds-mem-u
bounds-mem-u c = let r = c.requires in omega (arith, u_room (turn_of r.sides_1 r.sides_2 r.sides_3 r.out) _ refl c.if-p-eq0.false)

pub bounds-mem-u-then-q-eq0 : goal.bounds-mem-u-then-q-eq0
bounds-mem-u-then-q-eq0 c =
    let r = c.requires in simp length-set (omega (arith, u_room (turn_of r.sides_1 r.sides_2 r.sides_3 r.out) _ refl c.if-p-eq0.false))

pub returns-then-q-eq0 : goal.returns-then-q-eq0
returns-then-q-eq0 c =
    let r = c.requires in two_step (turn_of r.sides_1 r.sides_2 r.sides_3 r.out) _ refl c.if-p-eq0.false _ refl c.if-q-eq0.true

pub bounds-mem-w : goal.bounds-mem-w
bounds-mem-w c =
    let r = c.requires in omega (arith, w_room (turn_of r.sides_1 r.sides_2 r.sides_3 r.out) _ refl c.if-p-eq0.false _ refl c.if-q-eq0.false)

pub bounds-mem-w-2 : goal.bounds-mem-w-2
bounds-mem-w-2 c =
    let r = c.requires in
    simp length-set (omega (arith, w_room (turn_of r.sides_1 r.sides_2 r.sides_3 r.out) _ refl c.if-p-eq0.false _ refl c.if-q-eq0.false))

pub returns : goal.returns
returns c =
    let r = c.requires in
    third_step (turn_of r.sides_1 r.sides_2 r.sides_3 r.out) _ refl c.if-p-eq0.false _ refl c.if-q-eq0.false _ c.third_pair-third.ensures
