use Rattle.std.proofs.Common.{map, take}
use Rattle.outside_io.specs.Sink.{Took}
use Rattle.scenario_runs.specs.Restarting.{finished}
use Rattle.ffm_top.specs.Runs.{runs_text}
use Rattle.ffm_top.proofs.report.put_runs.Given as goal

-- the runs so far
abbrev pub invariant-loop-count : goal.invariant-loop-count
invariant-loop-count g l = Took (g.S.Sink.seen l.initial.out) (g.S.Sink.seen l.out) (runs_text l.counts 0 (map finished (take l.count l.runs.traces.items)))
