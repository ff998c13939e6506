-- `obj_windows::fill::nearer` meets its contract.
use native.Mathlib.Omega.{arith}
use Rattle.obj_windows.proofs.fill.nearer.Goals as goal

pub returns-then-number-base : goal.returns-then-number-base
returns-then-number-base c = record { less = omega arith; before_it = λ h. absurd (omega (arith, h, c.if-number-base.true)) }

pub returns : goal.returns
returns c = record { less = omega (arith, c.min.ensures); before_it = λ h. omega (arith, h, c.min.ensures) }
