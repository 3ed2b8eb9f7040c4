-- The loop of a partition of the SFN model and its functions have the same runs.
-- Source: FF-M 1.1, the SFN model; the loop is this simulator's.
use Rattle.std.specs.Prelude.{ℕ, ◌≡◌, true, List, ◌↔◌}
use Rattle.ffm_model.specs.declared.system.System.{System}
use Rattle.ffm_model.specs.declared.machine.Entry.{Entry}
use Rattle.ffm_model.specs.declared.script.SfnFunction.{SfnFunction}
use Rattle.ffm_model.specs.Memory.{ByteMap}
use Rattle.ffm_model.specs.Plans.{PlanRun}
use Rattle.ffm_model.specs.Records.{entries_of}
use Rattle.ffm_model.specs.ScriptRuns.{script_plan}
use Rattle.ffm_model.specs.SfnRuns.{SfnRun, sfn_partition}
use Rattle.ffm_model.specs.SfnScripts.{IsSfnScript}
use Rattle.ffm_model.specs.Step.{Run}
use Rattle.sfn_calls.specs.Loop.{expanded}
use Rattle.sfn_calls.specs.Partitions.{is_sfn}

-- in each run of the machine, such a partition's entries are a run of the loop exactly where they are rounds of the functions
abbrev pub LoopsAreRounds : Type 0
LoopsAreRounds = (s : System) (m : ByteMap) (es : List Entry) (a : ℕ) (functions : List SfnFunction) → Run s m es → is_sfn s a ≡ true → IsSfnScript functions
    → PlanRun (script_plan (expanded (sfn_partition s a functions))) (entries_of a es) ↔ SfnRun (sfn_partition s a functions) (entries_of a es)
