-- The work that an order asks for: what is read of the files, in which order, until the first refusal.
-- Source: this simulator's order of work: the system file and its manifests, the compiler, the scenario, its programs, the trace.
use Rattle.std.specs.Prelude.{ℕ, nat_lt, Bool, true, ◌&&◌, List, [], ◌∷◌, Result, Ok, Err, if◌then◌else◌}
use Rattle.ffm_model.specs.declared.codes.TheConstants.{BAD_VALUE}
use Rattle.ffm_model.specs.declared.constants.TheConstants.{MAX_FILE_BYTES}
use Rattle.ffm_model.specs.declared.key.Key.TheVariants as key
use Rattle.ffm_model.specs.declared.place.PathStep.TheVariants as step
use Rattle.ffm_model.specs.declared.place.Place.{Place}
use Rattle.ffm_model.specs.declared.place.Root.TheVariants as root
use Rattle.ffm_model.specs.declared.scenario.Scenario.{Scenario}
use Rattle.ffm_model.specs.declared.system.System.{System}
use Rattle.ffm_model.specs.Reading.{Contents, Reading, Stop, refused, ◌>>=◌, asks_nothing, file_at}
use Rattle.ffm_model.specs.Scenarios.{scenario_in}
use Rattle.ffm_model.specs.Systems.{system_of, stopped}
use Rattle.ffm_model.specs.Compiled.{compiled}
use Rattle.actor_programs.specs.declared.program.Program.{Program}
use Rattle.actor_programs.specs.Programs.{programs_of}
use Rattle.work_orders.specs.declared.limits.TheConstants.{MAX_TRACE_BYTES}
use Rattle.command_words.specs.declared.words.Inspection.{Inspection}
use Rattle.command_words.specs.Words.{Order, compile, run, judge, make}

-- ---- files

abbrev pub system_place : Place
system_place = record { root = root.System; steps = [] }

abbrev pub scenario_place : Place
scenario_place = record { root = root.Scenario; steps = [] }

abbrev pub trace_place : Place
trace_place = record { root = root.Trace; steps = [] }

-- the system of a system file's bytes
unfoldable pub system_in : Contents → List ℕ → Reading System
system_in of bytes = do
  parts ← system_of of bytes
  asks_nothing (compiled parts)

-- the system of a system file
unfoldable pub system_at : Contents → List ℕ → Reading System
system_at of name = do
  bytes ← file_at of system_place MAX_FILE_BYTES name
  system_in of bytes

-- the scenario of a scenario file
unfoldable pub scenario_at : Contents → System → List ℕ → Reading Scenario
scenario_at of s name = do
  bytes ← file_at of scenario_place MAX_FILE_BYTES name
  asks_nothing (stopped (scenario_in s bytes))

-- the scenario, for one run alone or for as many as it allows: restarts are refused where there is to be one run
abbrev pub scenario_for : Bool → Scenario → Result Scenario Stop
scenario_for single c =
    if single && nat_lt 0 c.restarts
    then Err (refused (record { code = BAD_VALUE; place = record { root = root.Scenario; steps = step.Key key.Restarts ∷ [] }; cycle = [] }))
    else Ok c

-- ---- work

pub data Work : Type 0 where
  listing_of : System → Work
  -- with threads or without
  run_of : Bool → System → Scenario → List Program → Work
  -- the trace file's bytes
  judge_of : Inspection → System → Scenario → List ℕ → Work
  make_of : ℕ → Work

-- the scenario's runs of a system; with threads there is one
unfoldable pub run_in : Contents → Bool → System → List ℕ → Reading Work
run_in of threads s scenario = do
  c ← scenario_at of s scenario
  programs ← asks_nothing (programs_of s c)
  runs ← asks_nothing (scenario_for threads c)
  asks_nothing (Ok (run_of threads s runs programs))

-- the listing of a system
unfoldable pub list_in : Contents → List ℕ → Reading Work
list_in of system = do
  s ← system_at of system
  asks_nothing (Ok (listing_of s))

-- the scenario's runs of a system, from their files
unfoldable pub run_at : Contents → Bool → List ℕ → List ℕ → Reading Work
run_at of threads system scenario = do
  s ← system_at of system
  run_in of threads s scenario

-- a trace file's bytes
unfoldable pub trace_in : Contents → Inspection → System → Scenario → List ℕ → Reading Work
trace_in of how s c trace = do
  bytes ← file_at of trace_place MAX_TRACE_BYTES trace
  asks_nothing (Ok (judge_of how s c bytes))

-- a trace for a system, which is of one run; the scenario's programs are read before it, and not used
unfoldable pub judge_in : Contents → Inspection → System → List ℕ → List ℕ → Reading Work
judge_in of how s scenario trace = do
  c ← scenario_at of s scenario
  programs ← asks_nothing (programs_of s c)
  single ← asks_nothing (scenario_for true c)
  trace_in of how s single trace

-- a trace for a system and a scenario, from their files
unfoldable pub judge_at : Contents → Inspection → List ℕ → List ℕ → List ℕ → Reading Work
judge_at of how system scenario trace = do
  s ← system_at of system
  judge_in of how s scenario trace

abbrev pub work_of : Contents → Order → Reading Work
work_of of (compile system) = list_in of system
work_of of (run threads system scenario) = run_at of threads system scenario
work_of of (judge how system scenario trace) = judge_at of how system scenario trace
work_of of (make rounds) = asks_nothing (Ok (make_of rounds))
