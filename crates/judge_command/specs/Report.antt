-- What is to be written of a trace's text: the text, and the status that comes with it.
-- Source: this simulator's.
use Rattle.std.specs.Prelude.{ℕ, List, ◌++◌}
use Rattle.machine_check.specs.Answers.{judgement}
use Rattle.judge_command.specs.Audits.{change_lines}
use Rattle.judge_command.specs.Replays.{judgement_status}
use Rattle.judge_command.specs.declared.report.TraceReport.{TraceReport}
use Rattle.judge_command.specs.declared.report.TraceReport.TheVariants.{Wrong, Judged, Audited}

unfoldable pub text_of : TraceReport → List ℕ
text_of (Wrong line) = line.items
text_of (Judged checked line) = line.items
text_of (Audited report line) = change_lines report.changes ++ line.items

abbrev pub status_of : TraceReport → ℕ
status_of (Wrong line) = 1
status_of (Judged checked line) = judgement_status (judgement checked)
status_of (Audited report line) = judgement_status (judgement report.result)
