-- The text of a scenario's runs of a system, and the status that comes with it.
-- Source: this simulator's.
use Rattle.std.specs.Prelude.{◌≡◌, ℕ, ◌+◌, ◌-◌, ◌==◌, Bool, List, [], ◌∷◌, ◌++◌, length, slice_get, codes, if◌then◌else◌}
use Rattle.std.specs.Fmt.{decimal}
use Rattle.std.specs.Option.{option_map_or}
use Rattle.ffm_model.specs.declared.machine.Verdict.{Verdict}
use Rattle.ffm_model.specs.declared.machine.Verdict.TheVariants.{Quiet, Stalled, Full}
use Rattle.ffm_model.specs.declared.scenario.Scenario.{Scenario}
use Rattle.ffm_model.specs.declared.system.System.{System}
use Rattle.ffm_model.specs.Actors.{counts_of}
use Rattle.ffm_model.specs.Counts.{ActorCounts}
use Rattle.ffm_model.specs.Restarts.{FinishedRun}
use Rattle.ffm_model.specs.TraceText.{line, trace_text}
use Rattle.actor_programs.specs.declared.program.Program.{Program}
use Rattle.scenario_runs.specs.Restarting.{AreRuns}

-- ---- the text

-- the line before a run that comes after k others: `restart K`, and none before the first run
unfoldable pub restart_line : ℕ → List ℕ
restart_line k = if k == 0 then [] else line (codes "restart " ++ decimal k)

-- the trace of a run that comes after k others, with the line before it
abbrev pub run_text : ActorCounts → ℕ → FinishedRun → List ℕ
run_text counts k r = restart_line k ++ trace_text counts r.entries r.verdict

-- the traces of runs that come after k others
abbrev pub runs_text : ActorCounts → ℕ → List FinishedRun → List ℕ
runs_text counts k [] = []
runs_text counts k (r ∷ rs) = run_text counts k r ++ runs_text counts (k + 1) rs

-- ---- the status

abbrev pub verdict_status : Verdict → ℕ
verdict_status Quiet = 0
verdict_status Stalled = 4
verdict_status Full = 5

-- that of the last run's verdict
abbrev pub last_status : List FinishedRun → ℕ
last_status rs = option_map_or (λ r. verdict_status r.verdict) (slice_get rs (length rs - 1)) 0

-- ---- both

-- the text is that of runs that the scenario may have from its opening memory, with as many restarts as it allows
pub record RunDue (s : System) (c : Scenario) (programs : List Program) (threads : Bool) (text : List ℕ) (status : ℕ) : Type 0 where
  pub runs : List FinishedRun
  pub ran : AreRuns s c programs threads c.restarts runs
  pub text_is : text ≡ runs_text (counts_of s) 0 runs
  pub status_is : status ≡ last_status runs
