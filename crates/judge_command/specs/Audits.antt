-- A trace that is audited: a line for each entry that changed a byte, and the line that says how the trace is judged.
-- Source: this simulator's.
use Rattle.std.specs.Prelude.{◌≡◌, ℕ, List, [], ◌∷◌, ◌++◌, length, codes, Option, None, Some}
use Rattle.std.specs.Fmt.{decimal}
use Rattle.std.specs.List.{flat_map}
use Rattle.ffm_model.specs.declared.machine.Entry.{Entry}
use Rattle.ffm_model.specs.declared.machine.Verdict.{Verdict}
use Rattle.ffm_model.specs.declared.scenario.Scenario.{Scenario}
use Rattle.ffm_model.specs.declared.system.System.{System}
use Rattle.ffm_model.specs.Memory.{opening_memory}
use Rattle.ffm_model.specs.TraceText.{Word, hexadecimal_word, line, spaced}
use Rattle.ffm_model.specs.Verdicts.{Judgement, Legal, IllegalAt}
use Rattle.judge_command.specs.Replays.{IsTextOf, judgement_status}
use Rattle.machine_check.specs.Answers.{judgement}
use Rattle.machine_check.specs.Auditing.{IsAudit}
use Rattle.machine_check.specs.declared.auditing.AuditReport.{AuditReport}
use Rattle.machine_check.specs.declared.auditing.Change.{Change}

-- the least changed address outside of the actor's own RAM, or `-` where there is none
abbrev pub outside_word : Option ℕ → Word
outside_word None = codes "-"
outside_word (Some address) = hexadecimal_word address

-- `PLACE LOWEST COUNT OUTSIDE`
unfoldable pub change_line : Change → List ℕ
change_line c = line (decimal c.place ++
    (spaced (hexadecimal_word c.lowest) ++ (spaced (decimal c.count) ++ spaced (outside_word c.outside))))

abbrev pub change_lines : List Change → List ℕ
change_lines cs = flat_map change_line cs

-- `clean` and the number of entries, or `illegal` and the place
unfoldable pub audit_line : Judgement → ℕ → List ℕ
audit_line Legal count = codes "clean " ++ (decimal count ++ 10 ∷ [])
audit_line (IllegalAt place) count = codes "illegal " ++ (decimal place ++ 10 ∷ [])

-- the bytes are a trace's text, and the lines are those of its changes and of its judgement
pub record AuditedDue (s : System) (c : Scenario) (bytes text : List ℕ) (status : ℕ) : Type 0 where
  pub entries : List Entry
  pub ended : Verdict
  pub report : AuditReport
  pub read : IsTextOf s bytes entries ended
  pub audited : IsAudit s (opening_memory c.memory) c.limit entries ended report
  pub text_is :
      text ≡ change_lines report.changes ++ audit_line (judgement report.result) (length entries)
  pub status_is : status ≡ judgement_status (judgement report.result)
