use Rattle.std.proofs.Common.{take}
use Rattle.outside_io.specs.Sink.{Took}
use Rattle.judge_command.specs.Audits.{change_lines}
use Rattle.judge_command.proofs.changes.put_changes.Given as goal

-- the lines so far
abbrev pub invariant-loop-change : goal.invariant-loop-change
invariant-loop-change g l = Took (g.S.Sink.seen l.initial.out) (g.S.Sink.seen l.out) (change_lines (take l.change-index l.changes))
