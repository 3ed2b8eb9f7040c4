use Rattle.partition_sim.proofs.ScheduleLemmas.{underway-start}
use Rattle.partition_sim.proofs.scheduled.drive_scheduled.Goals as goal

pub run_turns-requires-clause-underway : goal.run_turns-requires-clause-underway
run_turns-requires-clause-underway c =
    rw (c.as_slice-2.ensures, c.as_mut_slice.ensures.value)
    (underway-start _ _ _ _ c.requires.scripts c.requires.empty (rw (c.system.ensures, c.as_slice.ensures) at c.in_ok-runners.ensures))
