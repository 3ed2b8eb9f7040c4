-- What the files of a trace say.
-- Source: this simulator's.
use Rattle.ffm_model.specs.Memory.{ByteMap, opening_memory}
use Rattle.judge_command.specs.Replays.{IsTextOf}
use Rattle.work_orders.specs.View.{IsTraceWork}
use Rattle.view_aspects.specs.declared.traces.TraceFiles.{TraceFiles}

-- a scenario of the system, and the trace whose text the bytes are
pub record AreTraceFiles (f : TraceFiles) : Type 0 where
  pub work : IsTraceWork f.work
  pub read : IsTextOf f.work.system f.work.trace.items f.trace.entries f.trace.verdict

-- the memory that the trace begins with
abbrev pub memory_of : TraceFiles → ByteMap
memory_of f = opening_memory f.work.scenario.memory
