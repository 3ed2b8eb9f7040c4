use Rattle.std.proofs.Common.{◌≡◌}
use Rattle.ffm_model.specs.Ranges.{ranges_of}
use Rattle.memory_image.specs.Pieces.{byte_at, regions_of}
use Rattle.scenario_runs.proofs.RunsLemmas.{LeadsOn}
use Rattle.scenario_runs.proofs.restarting.runs_from.Given as goal

-- the system is the same, and the runs so far leave to the others what is to follow
abbrev pub invariant-loop-traces : goal.invariant-loop-traces
invariant-loop-traces l = record {
  system : l.system ≡ l.fn.system;
  regions : regions_of l.memory ≡ ranges_of l.fn.system.regions;
  leads : LeadsOn l.fn.system l.scenario l.scripts (byte_at l.first) (byte_at l.memory) l.left l.traces.items;
}

abbrev pub decreases-loop-traces : goal.decreases-loop-traces
decreases-loop-traces l = l.left
