-- Where systems, memories and programs are in range, each entry of their runs fits; and what is read of files is in range.
-- Source: this simulator's.
use Rattle.std.specs.Prelude.{◌≡◌, ◌≤◌, ℕ, Bool, List, Ok}
use Rattle.std.specs.List.{AllByRecursion}
use Rattle.ffm_model.specs.declared.constants.TheConstants.{MAX_ENTRIES}
use Rattle.ffm_model.specs.declared.machine.Entry.{Entry}
use Rattle.ffm_model.specs.declared.machine.Verdict.{Verdict}
use Rattle.ffm_model.specs.declared.parts.Parts.{Parts}
use Rattle.ffm_model.specs.declared.scenario.Scenario.{Scenario}
use Rattle.ffm_model.specs.declared.system.System.{System}
use Rattle.ffm_model.specs.Actors.{counts_of}
use Rattle.ffm_model.specs.Compiled.{compiled}
use Rattle.ffm_model.specs.Memory.{ByteMap, opening_memory}
use Rattle.ffm_model.specs.Reading.{Contents}
use Rattle.ffm_model.specs.Restarts.{FinishedRun}
use Rattle.ffm_model.specs.Scenarios.{scenario_in}
use Rattle.ffm_model.specs.Systems.{system_of}
use Rattle.ffm_model.specs.TraceText.{EntryFits}
use Rattle.actor_programs.specs.declared.program.Program.{Program}
use Rattle.actor_programs.specs.Programs.{programs_of}
use Rattle.scenario_runs.specs.Restarting.{AreRuns}
use Rattle.scenario_runs.specs.Runs.{RanBy}
use Rattle.law_scenarios.specs.Ranges.{HasBytes, ProgramsFit, VersionsFit}

-- ---- runs

-- each number of each entry of a run is a value of its field's type
abbrev pub HaveFittingEntries : System → ByteMap → List Program → Type 0
HaveFittingEntries s m programs =
    VersionsFit s → ProgramsFit s programs → HasBytes m
    → (c : Scenario) (threads : Bool) (es : List Entry) (v : Verdict)
    → RanBy s m c programs threads es v → AllByRecursion (EntryFits (counts_of s)) es

-- and so it is in each of a scenario's runs
abbrev pub HaveFittingRuns : System → Scenario → List Program → ℕ → Type 0
HaveFittingRuns s c programs restarts =
    VersionsFit s → ProgramsFit s programs → HasBytes (opening_memory c.memory)
    → (threads : Bool) (rs : List FinishedRun) → AreRuns s c programs threads restarts rs
    → AllByRecursion (λ r. AllByRecursion (EntryFits (counts_of s)) r.entries) rs

-- ---- files

-- the system of a system file
abbrev pub SystemIsInRange : Contents → List ℕ → Type 0
SystemIsInRange of bytes =
    (parts : Parts) (s : System) → (system_of of bytes).gives ≡ Ok parts → compiled parts ≡ Ok s → VersionsFit s

-- of a scenario file the limit of entries, the memory, and the programs of its scripts
pub record IsInRange (s : System) (c : Scenario) : Type 0 where
  pub limit : c.limit ≤ MAX_ENTRIES
  pub memory : HasBytes (opening_memory c.memory)
  pub programs : (programs : List Program) → programs_of s c ≡ Ok programs → ProgramsFit s programs

abbrev pub ScenarioIsInRange : System → List ℕ → Type 0
ScenarioIsInRange s bytes = (c : Scenario) → scenario_in s bytes ≡ Ok c → IsInRange s c
