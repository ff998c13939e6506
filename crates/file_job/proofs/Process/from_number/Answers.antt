-- `file_job::Process::from_number` meets its contract.
use mathlib.Core.Path.{◌≡◌}
use Prim.Native.Nat.{ℕ}
use borrow.Author.Tests.{ne_eqb}
use Rattle.file_job.specs.declared.Process.TheVariants.{CncMachining, SheetMetal, Fdm, Sla, Sls}
use Rattle.file_job.specs.Job.{process_of}
use Rattle.file_job.proofs.Process.from_number.Goals as goal

machining : (n : ℕ) → n ≡ 0 → CncMachining ≡ process_of n
unfolding process_of
machining n e = rw (e)

sheet : (n : ℕ) → n ≡ 1 → SheetMetal ≡ process_of n
unfolding process_of
sheet n e = rw (e)

fdm : (n : ℕ) → n ≡ 2 → Fdm ≡ process_of n
unfolding process_of
fdm n e = rw (e)

sla : (n : ℕ) → n ≡ 3 → Sla ≡ process_of n
unfolding process_of
sla n e = rw (e)

sls : (n : ℕ) → (n ≡ 0 → ⊥) → (n ≡ 1 → ⊥) → (n ≡ 2 → ⊥) → (n ≡ 3 → ⊥) → Sls ≡ process_of n
unfolding process_of
sls n a b d e = rw (ne_eqb n 0 a, ne_eqb n 1 b, ne_eqb n 2 d, ne_eqb n 3 e)

pub returns-in-0 : goal.returns-in-0
returns-in-0 c = machining c.args.n c.in-0.is

pub returns-in-1 : goal.returns-in-1
returns-in-1 c = sheet c.args.n c.in-1.is

pub returns-in-2 : goal.returns-in-2
returns-in-2 c = fdm c.args.n c.in-2.is

pub returns-in-3 : goal.returns-in-3
returns-in-3 c = sla c.args.n c.in-3.is

pub returns-in_default : goal.returns-in_default
returns-in_default c =
    let rest = c.in_default.in_default-own.rest in
    sls c.args.n rest.0.0.0.1 rest.0.0.1 rest.0.1 rest.1
