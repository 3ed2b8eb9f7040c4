-- A trace that is judged, or that no trace has this text.
use Rattle.std.proofs.Common.{ℕ, ◌≡◌, ◌⊎◌, List, length, inl, inr, ap, ◌∙◌}
use Rattle.ffm_model.specs.declared.machine.Entry.{Entry}
use Rattle.ffm_model.specs.declared.machine.Verdict.{Verdict}
use Rattle.ffm_model.specs.declared.scenario.Scenario.{Scenario}
use Rattle.ffm_model.specs.declared.system.System.{System}
use Rattle.ffm_model.specs.Actors.{counts_of}
use Rattle.ffm_model.specs.Verdicts.{Judgement, Legal, IllegalAt}
use Rattle.command_words.specs.declared.words.Inspection.{Inspection}
use Rattle.command_words.specs.declared.words.Inspection.TheVariants.{Replay, Audit}
use Rattle.machine_check.specs.Answers.{judgement}
use Rattle.text_lines.specs.Refusals.{refusal_line, wrong_line}
use Rattle.trace_print.specs.Lines.{IsFirstWrong}
use Rattle.trace_print.specs.View.{parts}
use Rattle.trace_print.proofs.WholeTrace.{never}
use Rattle.judge_command.specs.Due.{TraceDue}
use Rattle.judge_command.specs.Replays.{IsTextOf, IsTraceText, judgement_line, judgement_status, judgement_of, JudgedDue}

pub judged_due : (s : System) (c : Scenario) (bytes : List ℕ) (es : List Entry) (v : Verdict) (j : Judgement) (text : List ℕ) → IsTextOf s bytes es v → j ≡ judgement_of s c es v
    → text ≡ judgement_line j (length es) → JudgedDue s c bytes text (judgement_status j)
judged_due s c bytes es v j text read judged e = record {
  entries = es;
  ended = v;
  read = read;
  text_is = e ∙ ap (λ (k : Judgement). judgement_line k (length es)) judged;
  status_is = ap judgement_status judged;
}

pub wrong_due : (how : Inspection) (s : System) (c : Scenario) (bytes text : List ℕ) (status place : ℕ) → IsFirstWrong (counts_of s) 0 (parts 10 bytes) place → text ≡ refusal_line (wrong_line place) → status ≡ 1
    → TraceDue how s c bytes text status
wrong_due how s c bytes text status place first e one = inr (record { place = place; first = first; text_is = e; status_is = one })

-- ---- the status of a trace

one_of_two : (j : Judgement) (status : ℕ) → status ≡ judgement_status j → (status ≡ 0) ⊎ (status ≡ 6)
one_of_two Legal status e = inl e
one_of_two (IllegalAt place) status e = inr e

-- of a trace's text it is that of a legal one or of an illegal one
pub status_of_trace : (how : Inspection) (s : System) (c : Scenario) (bytes text : List ℕ) (status : ℕ) → TraceDue how s c bytes text status → IsTraceText s bytes → (status ≡ 0) ⊎ (status ≡ 6)
status_of_trace Replay s c bytes text status (inl due) is = one_of_two (judgement_of s c due.entries due.ended) status due.status_is
status_of_trace Audit s c bytes text status (inl due) is = one_of_two (judgement due.report.result) status due.status_is
status_of_trace how s c bytes text status (inr due) is = absurd (never (counts_of s) bytes due.place is.0 is.1 due.first is.2.fits is.2.few is.2.text)

-- and of every text it is one of these, or 1
pub status_of_text : (how : Inspection) (s : System) (c : Scenario) (bytes text : List ℕ) (status : ℕ) → TraceDue how s c bytes text status → (status ≡ 1) ⊎ ((status ≡ 0) ⊎ (status ≡ 6))
status_of_text Replay s c bytes text status (inl due) = inr (one_of_two (judgement_of s c due.entries due.ended) status due.status_is)
status_of_text Audit s c bytes text status (inl due) = inr (one_of_two (judgement due.report.result) status due.status_is)
status_of_text how s c bytes text status (inr due) = inl due.status_is
