-- `wall_tree::aim::is_open` meets its contract.
use borrow.Author.Rules.{rules}
use native.Mathlib.Omega.{arith}
use Rattle.wall_tree.specs.Work.{opens_at}
use Rattle.wall_tree.proofs.aim.is_open.Goals as goal

pub overflow_mul-at : goal.overflow_mul-at
overflow_mul-at c = search (rules, c.requires.fact_1, c.requires.fact_2.x, c.requires.fact_2.y, c.requires.fact_2.z, c.requires.fact_2.y_least, c.requires.fact_2.z_least)

pub overflow_add-nx : goal.overflow_add-nx
overflow_add-nx c = search (rules, c.requires.fact_1, c.requires.fact_2.x, c.requires.fact_2.y, c.requires.fact_2.z, c.requires.fact_2.y_least, c.requires.fact_2.z_least)

pub overflow_add-ny : goal.overflow_add-ny
overflow_add-ny c = search (rules, c.requires.fact_1, c.requires.fact_2.x, c.requires.fact_2.y, c.requires.fact_2.z, c.requires.fact_2.y_least, c.requires.fact_2.z_least)

pub overflow_add-nz : goal.overflow_add-nz
overflow_add-nz c = search (rules, c.requires.fact_1, c.requires.fact_2.x, c.requires.fact_2.y, c.requires.fact_2.z, c.requires.fact_2.y_least, c.requires.fact_2.z_least)

pub overflow_sub-fx : goal.overflow_sub-fx
overflow_sub-fx c = omega (arith, c.requires.fact_1, c.requires.fact_2.x, c.requires.fact_2.y, c.requires.fact_2.z, c.requires.fact_2.y_least, c.requires.fact_2.z_least)

pub overflow_add-fx : goal.overflow_add-fx
overflow_add-fx c = search (rules, c.requires.fact_1, c.requires.fact_2.x, c.requires.fact_2.y, c.requires.fact_2.z, c.requires.fact_2.y_least, c.requires.fact_2.z_least)

pub overflow_sub-fy : goal.overflow_sub-fy
overflow_sub-fy c = omega (arith, c.requires.fact_1, c.requires.fact_2.x, c.requires.fact_2.y, c.requires.fact_2.z, c.requires.fact_2.y_least, c.requires.fact_2.z_least)

pub overflow_add-fy : goal.overflow_add-fy
overflow_add-fy c = search (rules, c.requires.fact_1, c.requires.fact_2.x, c.requires.fact_2.y, c.requires.fact_2.z, c.requires.fact_2.y_least, c.requires.fact_2.z_least)

pub overflow_sub-fz : goal.overflow_sub-fz
overflow_sub-fz c = omega (arith, c.requires.fact_1, c.requires.fact_2.x, c.requires.fact_2.y, c.requires.fact_2.z, c.requires.fact_2.y_least, c.requires.fact_2.z_least)

pub overflow_add-fz : goal.overflow_add-fz
overflow_add-fz c = search (rules, c.requires.fact_1, c.requires.fact_2.x, c.requires.fact_2.y, c.requires.fact_2.z, c.requires.fact_2.y_least, c.requires.fact_2.z_least)

pub met-requires : goal.met-requires
met-requires c = omega (arith, c.requires.fact_1, c.requires.fact_2.x, c.requires.fact_2.y, c.requires.fact_2.z, c.requires.fact_2.y_least, c.requires.fact_2.z_least)

pub met-requires-2 : goal.met-requires-2
met-requires-2 c = omega (arith, c.requires.fact_1, c.requires.fact_2.x, c.requires.fact_2.y, c.requires.fact_2.z, c.requires.fact_2.y_least, c.requires.fact_2.z_least)

pub met-requires-3 : goal.met-requires-3
met-requires-3 c = omega (arith, c.requires.fact_1, c.requires.fact_2.x, c.requires.fact_2.y, c.requires.fact_2.z, c.requires.fact_2.y_least, c.requires.fact_2.z_least)

pub met-requires-4 : goal.met-requires-4
met-requires-4 c = omega (arith, c.requires.fact_1, c.requires.fact_2.x, c.requires.fact_2.y, c.requires.fact_2.z, c.requires.fact_2.y_least, c.requires.fact_2.z_least)

pub met-requires-5 : goal.met-requires-5
met-requires-5 c = omega (arith, c.requires.fact_1, c.requires.fact_2.x, c.requires.fact_2.y, c.requires.fact_2.z, c.requires.fact_2.y_least, c.requires.fact_2.z_least)

pub met-requires-6 : goal.met-requires-6
met-requires-6 c = omega (arith, c.requires.fact_1, c.requires.fact_2.x, c.requires.fact_2.y, c.requires.fact_2.z, c.requires.fact_2.y_least, c.requires.fact_2.z_least)

pub returns : goal.returns
unfolding opens_at
returns c = rw (c.later-enter.ensures, c.sooner-leave.ensures, c.met-5.ensures, c.met-6.ensures, c.later-ey.ensures, c.sooner-ly.ensures, c.met-3.ensures, c.met-4.ensures, c.later-ex.ensures, c.sooner-lx.ensures, c.met.ensures, c.met-2.ensures)
