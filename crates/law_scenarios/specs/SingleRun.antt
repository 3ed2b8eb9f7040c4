-- What fixes a run: the order of the actors, and without threads nothing but the scenario.
-- Source: this simulator's.
use Rattle.std.specs.Prelude.{◌≡◌, ◌≤◌, Some, length, ℕ, Bool, true, false, List, ◌++◌}
use Rattle.ffm_model.specs.declared.machine.Entry.{Entry}
use Rattle.ffm_model.specs.declared.machine.Verdict.{Verdict}
use Rattle.ffm_model.specs.declared.scenario.Scenario.{Scenario}
use Rattle.ffm_model.specs.declared.system.System.{System}
use Rattle.ffm_model.specs.Memory.{ByteMap}
use Rattle.ffm_model.specs.Restarts.{FinishedRun}
use Rattle.ffm_model.specs.Verdicts.{verdict_of}
use Rattle.actor_programs.specs.declared.program.Program.{Program}
use Rattle.scenario_runs.specs.Restarting.{AreRuns}
use Rattle.scenario_runs.specs.Runs.{RanBy}
use Rattle.law_scenarios.specs.Interleavings.{Front, Interleaving, actors_of, schedule_of}

-- ---- in any order

-- two interleavings with the actors in one order are equal
abbrev pub FollowTheirActors : System → ByteMap → List Program → Type 0
FollowTheirActors s m programs =
    (es fs : List Entry) → Interleaving s m programs es → Interleaving s m programs fs
    → actors_of es ≡ actors_of fs → es ≡ fs

-- and where one's order begins the other's, its entries do
abbrev pub BeginWithTheirActors : System → ByteMap → List Program → Type 0
BeginWithTheirActors s m programs =
    (es fs : List Entry) (more : List ℕ) → Interleaving s m programs es → Interleaving s m programs fs
    → actors_of fs ≡ actors_of es ++ more → Front es fs

-- one that ended within the limit is a run of the scenario with threads, and without them where the schedule tells its actors
abbrev pub EndAsRuns : System → ByteMap → List Program → Type 0
EndAsRuns s m programs =
    (c : Scenario) (es : List Entry) (v : Verdict)
    → Interleaving s m programs es → length es ≤ c.limit → verdict_of s m c.limit es ≡ Some v
    → RanBy s m c programs true es v × (c.schedule ≡ schedule_of es → RanBy s m c programs false es v)

-- ---- without threads

-- two runs of a scenario from one memory are one, with one verdict
abbrev pub HasOneRun : System → ByteMap → Scenario → List Program → Type 0
HasOneRun s m c programs =
    (es fs : List Entry) (v w : Verdict)
    → RanBy s m c programs false es v → RanBy s m c programs false fs w → (es ≡ fs) × (v ≡ w)

-- and so are all its runs, with as many restarts at most
abbrev pub HasOneListOfRuns : System → Scenario → List Program → ℕ → Type 0
HasOneListOfRuns s c programs restarts =
    (rs qs : List FinishedRun)
    → AreRuns s c programs false restarts rs → AreRuns s c programs false restarts qs → rs ≡ qs

-- ---- with threads

-- two runs of a scenario from one memory with the actors in one order are one
abbrev pub HasOneRunInEachOrder : System → ByteMap → Scenario → List Program → Type 0
HasOneRunInEachOrder s m c programs =
    (es fs : List Entry) (v w : Verdict)
    → RanBy s m c programs true es v → RanBy s m c programs true fs w
    → actors_of es ≡ actors_of fs → (es ≡ fs) × (v ≡ w)

-- each run is the run without threads of a scenario that has its order as the schedule
abbrev pub AreTheirSchedules : System → ByteMap → List Program → Type 0
AreTheirSchedules s m programs =
    (c d : Scenario) (threads : Bool) (es : List Entry) (v : Verdict)
    → RanBy s m c programs threads es v
    → d.limit ≡ c.limit → d.schedule ≡ schedule_of es → RanBy s m d programs false es v
