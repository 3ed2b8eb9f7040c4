use Rattle.trace_print.proofs.LineLengths.{short_lines}
use Rattle.trace_print.proofs.run_lines.lines_of_runs_are_short.Goals as goal

pub returns : goal.returns
returns c = short_lines
