-- `dfm_core::halves::fault_count` meets its contract.
use Rattle.dfm_core.specs.Work.{faults_in}
use Rattle.dfm_core.proofs.halves.fault_count.Goals as goal

pub returns-in-Ok : goal.returns-in-Ok
unfolding faults_in
returns-in-Ok c = rw c.in-Ok.is

pub returns-in-Err : goal.returns-in-Err
unfolding faults_in
returns-in-Err c = rw c.in-Err.is
