use Rattle.std.proofs.Common.{take}
use Rattle.std.specs.List.{flat_map}
use Rattle.outside_io.specs.Sink.{Took}
use Rattle.ffm_model.specs.TraceText.{entry_text, line}
use Rattle.ffm_top.proofs.report.put_trace.Given as goal

-- the lines so far
abbrev pub invariant-loop-entry : goal.invariant-loop-entry
invariant-loop-entry g l = Took (g.S.Sink.seen l.initial.out) (g.S.Sink.seen l.out) (flat_map (λ e. line (entry_text l.counts e)) (take l.entry-index l.entry-items))
