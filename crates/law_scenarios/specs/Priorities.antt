-- A system with other priorities, and that nothing else of it is another: not its runs, nor how traces are judged.
-- Source: FF-M 1.0, a manifest's `priority`; that it has no effect is this simulator's.
use Rattle.std.specs.Prelude.{◌≡◌, ℕ, Bool, true, List, map}
use Rattle.ffm_model.specs.declared.machine.Entry.{Entry}
use Rattle.ffm_model.specs.declared.machine.Verdict.{Verdict}
use Rattle.ffm_model.specs.declared.scenario.Scenario.{Scenario}
use Rattle.ffm_model.specs.declared.system.Partition.{Partition}
use Rattle.ffm_model.specs.declared.system.Priority.TheVariants.{Normal}
use Rattle.ffm_model.specs.declared.system.System.{System}
use Rattle.ffm_model.specs.Memory.{ByteMap}
use Rattle.ffm_model.specs.Restarts.{FinishedRun}
use Rattle.ffm_model.specs.Scenarios.{scenario_in}
use Rattle.ffm_model.specs.Verdicts.{judged}
use Rattle.ffm_model.specs.WellFormed.{is_well_formed}
use Rattle.actor_programs.specs.declared.program.Program.{Program}
use Rattle.actor_programs.specs.Programs.{programs_of}
use Rattle.scenario_runs.specs.Restarting.{AreRuns}

-- a partition, its priority aside
abbrev pub plain : Partition → Partition
plain p = record p { priority = Normal }

-- the partitions, their priorities aside
abbrev pub aside : List Partition → List Partition
aside partitions = map plain partitions

-- these partitions fit the other parts of a system
abbrev pub DoFit : System → List Partition → Type 0
DoFit s partitions = is_well_formed s.level partitions s.services s.sources s.regions s.clients s.budgets ≡ true

-- the system with these partitions
abbrev pub with_partitions : (s : System) (partitions : List Partition) → DoFit s partitions → System
with_partitions s partitions fits = record s { partitions = partitions; well_formed = fits }

-- partitions with other priorities fit too
abbrev pub FitAlike : System → List Partition → Type 0
FitAlike s partitions = aside partitions ≡ aside s.partitions → DoFit s partitions

-- systems that differ in priorities have the same runs, of the same programs
abbrev pub RunAlike : System → List Partition → Type 0
RunAlike s partitions =
    (fits : DoFit s partitions) → aside partitions ≡ aside s.partitions
    → (c : Scenario) (programs : List Program) (threads : Bool) (restarts : ℕ) (rs : List FinishedRun)
    → AreRuns s c programs threads restarts rs → AreRuns (with_partitions s partitions fits) c programs threads restarts rs

-- and judge traces alike
abbrev pub JudgeAlike : System → List Partition → Type 0
JudgeAlike s partitions =
    (fits : DoFit s partitions) → aside partitions ≡ aside s.partitions
    → (m : ByteMap) (limit : ℕ) (es : List Entry) (v : Verdict)
    → judged (with_partitions s partitions fits) m limit es v ≡ judged s m limit es v

-- and read scenarios and their programs alike
abbrev pub ReadAlike : System → List Partition → Type 0
ReadAlike s partitions =
    (fits : DoFit s partitions) → aside partitions ≡ aside s.partitions
    → ((bytes : List ℕ) → scenario_in (with_partitions s partitions fits) bytes ≡ scenario_in s bytes)
    × ((c : Scenario) → programs_of (with_partitions s partitions fits) c ≡ programs_of s c)
