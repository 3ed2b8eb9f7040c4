-- Statements that say more than the laws of single runs, of ranges and of replays, and are wrong.
-- Source: this simulator's.
use Rattle.std.specs.Prelude.{◌≡◌, ◌<◌, ℕ, true, List, [], get_or}
use Rattle.ffm_model.specs.declared.machine.Entry.{Entry}
use Rattle.ffm_model.specs.declared.machine.Verdict.{Verdict}
use Rattle.ffm_model.specs.declared.scenario.Scenario.{Scenario}
use Rattle.ffm_model.specs.declared.system.System.{System}
use Rattle.ffm_model.specs.Actors.{actor_count}
use Rattle.ffm_model.specs.Memory.{ByteMap}
use Rattle.ffm_model.specs.Records.{entries_of}
use Rattle.ffm_model.specs.Step.{Run}
use Rattle.ffm_model.specs.Verdicts.{Legal, judged}
use Rattle.actor_programs.specs.declared.program.Program.{Program}
use Rattle.actor_programs.specs.declared.program.Program.TheVariants.{Plain}
use Rattle.scenario_runs.specs.Runs.{ProgramRun, RanBy}
use Rattle.law_scenarios.specs.Interleavings.{actors_of}

-- each actor's entries are a run of its program
abbrev pub AreProgrammed : System → List Program → List Entry → Type 0
AreProgrammed s programs es = (a : ℕ) → a < actor_count s → ProgramRun s a (get_or programs a (Plain [])) (entries_of a es)

-- runs of the programs in one order of the actors are one, whichever handles they show
abbrev pub FollowWithoutNames : Type 0
FollowWithoutNames =
    (s : System) (m : ByteMap) (programs : List Program) (es fs : List Entry)
    → Run s m es → AreProgrammed s programs es → Run s m fs → AreProgrammed s programs fs
    → actors_of es ≡ actors_of fs → es ≡ fs

-- a scenario has one run, whatever the turns are
abbrev pub HasOneRunInAnyTurns : Type 0
HasOneRunInAnyTurns =
    (s : System) (m : ByteMap) (c : Scenario) (programs : List Program) (es fs : List Entry) (v w : Verdict)
    → RanBy s m c programs true es v → RanBy s m c programs true fs w → es ≡ fs

-- a legal trace of the programs' calls is a run, whichever handles it shows
abbrev pub RunsWhereLegal : Type 0
RunsWhereLegal =
    (s : System) (m : ByteMap) (c : Scenario) (programs : List Program) (es : List Entry) (v : Verdict)
    → judged s m c.limit es v ≡ Legal → AreProgrammed s programs es → RanBy s m c programs true es v
