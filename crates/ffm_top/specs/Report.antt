-- What is to be written: its text and the status that comes with it.
-- Source: this simulator's.
use Rattle.std.specs.Prelude.{ℕ, List, map}
use Rattle.ffm_model.specs.Actors.{counts_of}
use Rattle.ffm_top.specs.declared.report.Report.{Report}
use Rattle.ffm_top.specs.declared.report.Report.TheVariants.{Usage, Refused, Text, Ran, Inspected}
use Rattle.ffm_top.specs.Runs.{last_status, runs_text}
use Rattle.judge_command.specs.Report.{status_of as trace_status, text_of as trace_lines}
use Rattle.scenario_runs.specs.Restarting.{finished}
use Rattle.text_lines.specs.Usage.{usage_line}

unfoldable pub text_of : Report → List ℕ
text_of Usage = usage_line
text_of (Refused line) = line.items
text_of (Text text) = text.items
text_of (Ran runs) = runs_text (counts_of runs.system) 0 (map finished runs.traces.items)
text_of (Inspected report) = trace_lines report

abbrev pub status_of : Report → ℕ
status_of Usage = 2
status_of (Refused line) = 1
status_of (Text text) = 0
status_of (Ran runs) = last_status (map finished runs.traces.items)
status_of (Inspected report) = trace_status report
