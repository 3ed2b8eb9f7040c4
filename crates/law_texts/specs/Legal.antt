-- When a trace is a run of a scenario's programs.
-- Source: this simulator's.
use Rattle.std.specs.Prelude.{◌≡◌, ◌↔◌, ◌<◌, ℕ, Bool, true, false, List, [], get_or}
use Rattle.ffm_model.specs.declared.machine.Entry.{Entry}
use Rattle.ffm_model.specs.declared.machine.Verdict.{Verdict}
use Rattle.ffm_model.specs.declared.scenario.Scenario.{Scenario}
use Rattle.ffm_model.specs.declared.system.System.{System}
use Rattle.ffm_model.specs.Actors.{actor_count}
use Rattle.ffm_model.specs.Memory.{ByteMap}
use Rattle.ffm_model.specs.Names.{names}
use Rattle.ffm_model.specs.Records.{entries_of}
use Rattle.ffm_model.specs.Schedule.{Scheduled}
use Rattle.ffm_model.specs.Verdicts.{Legal, judged}
use Rattle.actor_programs.specs.declared.program.Program.{Program}
use Rattle.actor_programs.specs.declared.program.Program.TheVariants.{Plain}
use Rattle.scenario_runs.specs.Runs.{ProgramRun, RanBy}

-- the machine judges the trace to be legal, and each entry is what its actor's program asks for and this simulator names
pub record IsPlayed (s : System) (m : ByteMap) (c : Scenario) (programs : List Program) (threads : Bool) (es : List Entry) (v : Verdict) : Type 0 where
  pub legal : judged s m c.limit es v ≡ Legal
  -- each actor's entries are the calls of its program, with the answers that stand there
  pub programmed : (a : ℕ) → a < actor_count s → ProgramRun s a (get_or programs a (Plain [])) (entries_of a es)
  -- each handle is the name of its connection or message
  pub named : names s m es ≡ true
  -- without threads, the entries were made in the turns of the schedule
  pub scheduled : threads ≡ false → Scheduled s m c.schedule es

-- a trace is a run of the scenario exactly where it is so
abbrev pub AreRunsWherePlayed : System → ByteMap → Scenario → List Program → Bool → Type 0
AreRunsWherePlayed s m c programs threads =
    (es : List Entry) (v : Verdict)
    → RanBy s m c programs threads es v ↔ IsPlayed s m c programs threads es v
