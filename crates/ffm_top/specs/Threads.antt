-- Runs with a thread for each actor.
-- Source: this simulator's.
use Rattle.std.specs.Prelude.{◌≡◌, true, IfOk, Result, map}
use Rattle.ffm_model.specs.declared.machine.Memory.{Memory}
use Rattle.scenario_runs.specs.declared.restarting.Runs.{Runs}
use Rattle.scenario_runs.specs.Restarting.{AreRuns, finished}
use Rattle.work_orders.specs.View.{IsRun}
use Rattle.work_orders.specs.declared.work.RunWork.{RunWork}
use Rattle.ffm_top.specs.declared.run.InThreads.{InThreads}

-- the one run of the work's scenario, with threads
abbrev pub IsThreadedRun : RunWork → Result Runs Memory → Type 0
IsThreadedRun work r = IfOk r (λ runs. (runs.system ≡ work.system) × AreRuns work.system work.scenario work.programs true 0 (map finished runs.traces.items))

abbrev pub run_by : {F : Type 0} → InThreads F → F
run_by threads = threads.run

-- a closure with these conditions and results may be called for each such work, and runs it
abbrev pub RunsWork : {F : Type 0} → (F → RunWork → Type 0) → (F → RunWork → Result Runs Memory → Type 0) → F → Type 0
RunsWork pre post f = ((work : RunWork) → IsRun work → work.threads ≡ true → pre f work) × ((work : RunWork) (r : Result Runs Memory) → post f work r → IsThreadedRun work r)
