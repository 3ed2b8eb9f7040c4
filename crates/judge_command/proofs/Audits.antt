-- A trace that is audited, and the lines of its changes.
use Rattle.std.proofs.Common.{ℕ, ◌≡◌, List, ◌++◌, length, refl, ap}
use Rattle.ffm_model.specs.declared.machine.Entry.{Entry}
use Rattle.ffm_model.specs.declared.machine.Verdict.{Verdict}
use Rattle.ffm_model.specs.declared.scenario.Scenario.{Scenario}
use Rattle.ffm_model.specs.declared.system.System.{System}
use Rattle.ffm_model.specs.Memory.{opening_memory}
use Rattle.ffm_model.specs.TraceText.{hexadecimal_word, hexadecimal_digits}
use Rattle.machine_check.specs.Answers.{judgement}
use Rattle.machine_check.specs.Auditing.{IsAudit}
use Rattle.machine_check.specs.declared.auditing.AuditReport.{AuditReport}
use Rattle.judge_command.specs.Audits.{AuditedDue, audit_line, change_lines}
use Rattle.judge_command.specs.Replays.{IsTextOf, judgement_status}

pub audited_due : (s : System) (c : Scenario) (bytes : List ℕ) (es : List Entry) (v : Verdict) (report : AuditReport) (last : List ℕ) → IsTextOf s bytes es v
    → IsAudit s (opening_memory c.memory) c.limit es v report → last ≡ audit_line (judgement report.result) (length es)
    → AuditedDue s c bytes (change_lines report.changes ++ last) (judgement_status (judgement report.result))
audited_due s c bytes es v report last read audited e = record {
  entries = es;
  ended = v;
  report = report;
  read = read;
  audited = audited;
  text_is = ap (λ (t : List ℕ). change_lines report.changes ++ t) e;
  status_is = refl;
}

-- an address has `0x` and eight digits
pub address_length : (n : ℕ) → length (hexadecimal_word n) ≡ 10
unfolding hexadecimal_word hexadecimal_digits
address_length n = refl
