use Rattle.std.proofs.Common.{◌≡◌, take}
use Rattle.ffm_model.specs.Ranges.{ranges_of}
use Rattle.memory_image.specs.Pieces.{byte_at, regions_of}
use Rattle.scenario_runs.proofs.Resets.{reset_in}
use Rattle.scenario_runs.proofs.opening.reset.Given as goal

-- the MMIO regions so far are as the run left them
abbrev pub invariant-loop-region : goal.invariant-loop-region
invariant-loop-region l = record {
  bytes : byte_at l.image ≡ reset_in (take l.region-index l.region-items) (byte_at l.first) (byte_at l.last);
  regions : regions_of l.image ≡ ranges_of l.ended.opening.system.regions;
}
