-- That the text of a run is a trace's, and that it is judged to be legal.
-- Source: this simulator's.
use Rattle.std.specs.Prelude.{◌≡◌, ◌≢◌, ℕ, Bool, List, Some, Ok, length}
use Rattle.std.specs.List.{AllByRecursion}
use Rattle.ffm_model.specs.declared.machine.Entry.{Entry}
use Rattle.ffm_model.specs.declared.machine.Verdict.{Verdict}
use Rattle.ffm_model.specs.declared.scenario.Scenario.{Scenario}
use Rattle.ffm_model.specs.declared.system.System.{System}
use Rattle.ffm_model.specs.Actors.{counts_of}
use Rattle.ffm_model.specs.Reading.{Contents}
use Rattle.ffm_model.specs.Restarts.{FinishedRun}
use Rattle.ffm_model.specs.TraceText.{trace_text}
use Rattle.ffm_model.specs.Verdicts.{Legal}
use Rattle.actor_programs.specs.declared.program.Program.{Program}
use Rattle.scenario_runs.specs.Restarting.{AreRuns}
use Rattle.trace_print.specs.RunLines.{AreShortLines}
use Rattle.command_words.specs.declared.words.Inspection.TheVariants.{Replay}
use Rattle.command_words.specs.Words.{judge, order_of, run}
use Rattle.work_orders.specs.Work.{run_at, run_of, scenario_at, system_at}
use Rattle.ffm_top.specs.Due.{Due}
use Rattle.judge_command.specs.Replays.{IsTextOf, judgement_line}

-- a run's text is that of a trace, which is the run; no line of an entry has more than 175 bytes
pub record IsReadable (s : System) (r : FinishedRun) : Type 0 where
  pub read : IsTextOf s (trace_text (counts_of s) r.entries r.verdict) r.entries r.verdict
  pub short : AreShortLines s r.entries

-- each run that the files call for is so
abbrev pub AreReadable : Contents → Bool → List ℕ → List ℕ → Type 0
AreReadable of threads system scenario =
    (s : System) (c : Scenario) (programs : List Program) (runs : List FinishedRun)
    → (run_at of threads system scenario).gives ≡ Ok (run_of threads s c programs)
    → AreRuns s c programs threads c.restarts runs
    → AllByRecursion (IsReadable s) runs

-- a text is a trace's, and `replay` of it has the line `legal`, the number of its entries, and the status 0
pub record IsLegalReplay (of : Contents) (words : List (List ℕ)) (s : System) (text : List ℕ) : Type 0 where
  pub entries : List Entry
  pub ended : Verdict
  pub read : IsTextOf s text entries ended
  pub legal : Due words of (judgement_line Legal (length entries)) 0

-- where a name holds the text of a scenario's only run, and not that of a refusal, `replay` of it is so
abbrev pub IsReplayed : Contents → List (List ℕ) → List (List ℕ) → Type 0
IsReplayed of words others =
    (threads : Bool) (system scenario trace text : List ℕ) (status : ℕ) (s : System) (c : Scenario)
    → order_of words ≡ Some (run threads system scenario)
    → order_of others ≡ Some (judge Replay system scenario trace)
    → (system_at of system).gives ≡ Ok s → (scenario_at of s scenario).gives ≡ Ok c → c.restarts ≡ 0
    → Due words of text status → status ≢ 1 → of trace ≡ Some text
    → IsLegalReplay of others s text
