-- The runs of a scenario over a system: one, and after a panic others that follow it.
-- Source: this simulator's.
use Rattle.std.specs.Prelude.{ℕ, ◌+◌, nat_le, nat_lt, Bool, ◌&&◌, List, length, if◌then◌else◌}
use Rattle.std.specs.List.{list_all}
use Rattle.ffm_model.specs.declared.constants.TheConstants.{MAX_ENTRIES}
use Rattle.ffm_model.specs.declared.scenario.Scenario.{Scenario}
use Rattle.ffm_model.specs.declared.system.System.{System}
use Rattle.ffm_model.specs.declared.trace.Trace.{Trace}
use Rattle.ffm_model.specs.Counts.{ActorCounts}
use Rattle.ffm_model.specs.Memory.{opening_memory}
use Rattle.ffm_model.specs.Restarts.{FinishedRun, Runs}
use Rattle.actor_programs.specs.declared.program.Program.{Program}
use Rattle.scenario_runs.specs.Runs.{RanBy}

-- a trace as what a run made
abbrev pub finished : Trace → FinishedRun
finished t = record { entries = t.entries; verdict = t.verdict }

-- runs that a scenario may have over a system, with so many restarts at most: each one is a run of the programs from its own memory
abbrev pub AreRuns : System → Scenario → List Program → Bool → ℕ → List FinishedRun → Type 0
AreRuns s c programs threads restarts runs = Runs s (λ m r. RanBy s m c programs threads r.entries r.verdict) (opening_memory c.memory) restarts runs

-- a trace has at most 262,144 events, each of them an actor's that the counts name
abbrev pub fits_counts : ActorCounts → Trace → Bool
fits_counts counts t = nat_le (length t.entries) MAX_ENTRIES && list_all (λ e. nat_lt e.actor.0 (counts.partitions + counts.clients + (if counts.device then 1 else 0))) t.entries
