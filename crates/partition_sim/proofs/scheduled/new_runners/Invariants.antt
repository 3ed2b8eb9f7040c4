use Rattle.std.proofs.Common.{◌≤◌, vec_capacity}
use Rattle.partition_sim.specs.Driving.{AreNew}
use Rattle.partition_sim.proofs.scheduled.new_runners.Given as goal

-- the runners so far, and the room for all
abbrev pub invariant-loop-a : goal.invariant-loop-a
invariant-loop-a l = record {
  made : AreNew l.system l.scripts l.a l.runners.items;
  room : l.count ≤ vec_capacity l.runners;
}
