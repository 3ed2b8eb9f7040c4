-- The code's work as contracts see it, and what it keeps.
-- Source: this simulator's.
use Rattle.std.specs.Prelude.{◌≡◌, Bool, true, false, Option, None, Some, length}
use Rattle.ffm_model.specs.Actors.{actor_count}
use Rattle.ffm_model.specs.Scenarios.{IsScenarioOf}
use Rattle.actor_programs.specs.Programs.{ArePrograms}
use Rattle.command_words.specs.declared.words.Inspection.{Inspection}
use Rattle.command_words.specs.Words.{Order, judge}
use Rattle.work_orders.specs.declared.work.Work as code
use Rattle.work_orders.specs.declared.work.Work.TheVariants as code_work
use Rattle.work_orders.specs.declared.work.RunWork.{RunWork}
use Rattle.work_orders.specs.declared.work.TraceWork.{TraceWork}
use Rattle.work_orders.specs.Work.{Work, listing_of, run_of, judge_of, make_of}

abbrev pub work : code.Work → Work
work (code_work.Listing system) = listing_of system
work (code_work.Run run) = run_of run.threads run.system run.scenario run.programs
work (code_work.Judge task) = judge_of task.inspection task.system task.scenario task.trace.items
work (code_work.Make rounds) = make_of rounds

-- whether a run with threads is to be done
abbrev pub threads_of : code.Work → Bool
threads_of (code_work.Run run) = run.threads
threads_of _ = false

-- how a trace is to be judged, where one is
abbrev pub inspection_of : code.Work → Option Inspection
inspection_of (code_work.Judge task) = Some task.inspection
inspection_of _ = None

-- the same of what is asked for
abbrev pub inspection_asked : Order → Option Inspection
inspection_asked (judge how system scenario trace) = Some how
inspection_asked _ = None

-- a scenario of the system, without restarts where it is for a run with threads, and a program for each actor
pub record IsRun (run : RunWork) : Type 0 where
  pub scenario : IsScenarioOf run.system run.scenario
  pub single : run.threads ≡ true → run.scenario.restarts ≡ 0
  pub programs : length run.programs ≡ actor_count run.system
  pub fit : ArePrograms run.system run.programs

-- a scenario of the system
abbrev pub IsTraceWork : TraceWork → Type 0
IsTraceWork task = IsScenarioOf task.system task.scenario

abbrev pub IsWork : code.Work → Type 0
IsWork (code_work.Listing system) = Unit {0}
IsWork (code_work.Run run) = IsRun run
IsWork (code_work.Judge task) = IsTraceWork task
IsWork (code_work.Make rounds) = Unit {0}
