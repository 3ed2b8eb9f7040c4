-- What is told of files of which the first refusal is asked for, out of ffm's own line and the words behind it.
use Rattle.std.proofs.Common.{◌≡◌, ℕ, List, length, inl, inr, refl, subst, sym}
use Rattle.std.specs.Prelude.{Result, Ok, Err}
use Rattle.ffm_model.specs.declared.machine.Entry.{Entry}
use Rattle.ffm_model.specs.declared.machine.Verdict.{Verdict}
use Rattle.ffm_model.specs.declared.place.Refusal.{Refusal}
use Rattle.ffm_model.specs.declared.system.System.{System}
use Rattle.ffm_model.specs.Actors.{counts_of}
use Rattle.ffm_model.specs.Reading.{Stop, refused}
use Rattle.judge_command.specs.Replays.{IsTextOf, judgement_line, judgement_of, judgement_status}
use Rattle.outside_io.specs.Files.{Asks, FilesSeen}
use Rattle.text_lines.specs.Refusals.{refusal_line, wrong_line}
use Rattle.trace_print.specs.Lines.{IsFirstWrong}
use Rattle.trace_print.specs.View.{parts}
use Rattle.work_orders.specs.declared.work.TraceWork.{TraceWork}
use Rattle.work_orders.specs.declared.work.RunWork.{RunWork}
use Rattle.work_orders.specs.Work.{Work, judge_of, listing_of, run_of}
use Rattle.program_words.specs.declared.answers.Answer.{Answer}
use Rattle.program_words.specs.declared.view.ExplainedNames.{ExplainedNames}
use Rattle.view_explaining.specs.Explains.{AdmittedDue, AnswersExplained, IsAdmitted, IsExplained, IsFollowed, IsFollowedBy, IsTraceTold}
use Rattle.view_explaining.specs.Orders.{files_explained, given}

-- a file is refused
pub told_refused : (r : Refusal) (line words : List ℕ) (answer : Answer) → line ≡ refusal_line r → IsFollowed line words 1 answer → IsExplained (Err (refused r)) answer.text.items answer.status
told_refused r line words answer is followed = record { line = line; more = words; is = followed.0; is_due = (is, followed.1) }

-- a system is admitted
pub told_admitted : (s : System) (line words : List ℕ) (status : ℕ) (answer : Answer) → AdmittedDue s line status → IsFollowed line words status answer → IsAdmitted s answer.text.items answer.status
told_admitted s line words status answer due followed = (line, words, followed.0, subst (AdmittedDue s line) (sym followed.1) due)

-- a trace is judged
pub told_judged : (w : TraceWork) (es : List Entry) (v : Verdict) (line words : List ℕ) (answer : Answer) → IsTextOf w.system w.trace.items es v
    → line ≡ judgement_line (judgement_of w.system w.scenario es v) (length es) → IsFollowed line words (judgement_status (judgement_of w.system w.scenario es v)) answer
    → IsTraceTold w answer.text.items answer.status
told_judged w es v line words answer read is followed =
    (line, words, followed.0, inl (record { entries = es; ended = v; read = read; text_is = is; status_is = followed.1 }))

-- a text is no trace's
pub told_wrong : (w : TraceWork) (k : ℕ) (answer : Answer) → IsFirstWrong (counts_of w.system) 0 (parts 10 w.trace.items) k → IsFollowedBy (refusal_line (wrong_line k)) 1 answer → IsTraceTold w answer.text.items answer.status
told_wrong w k answer first (words, followed) =
    (refusal_line (wrong_line k), words, followed.0, inr (record { place = k; first = first; text_is = refl; status_is = followed.1 }))

-- ---- of work that no file refuses

pub told_listing : (s : System) (text : List ℕ) (status : ℕ) → IsAdmitted s text status → IsExplained (Ok (listing_of s)) text status
told_listing s text status (line, more, is, due) = record { line = line; more = more; is = is; is_due = due }

pub told_run : (run : RunWork) (text : List ℕ) (status : ℕ) → IsAdmitted run.system text status → IsExplained (Ok (run_of run.threads run.system run.scenario run.programs)) text status
told_run run text status (line, more, is, due) = record { line = line; more = more; is = is; is_due = due }

pub told_trace : (w : TraceWork) (text : List ℕ) (status : ℕ) → IsTraceTold w text status → IsExplained (Ok (judge_of w.inspection w.system w.scenario w.trace.items)) text status
told_trace w text status (line, more, is, due) = record { line = line; more = more; is = is; is_due = due }

-- the files were read, and this is told of what they give
pub explained_answer : (names : ExplainedNames) (a b : FilesSeen) (due : Result Work Stop) (answer : Answer) → Asks a b (given due) (files_explained names) → IsExplained due answer.text.items answer.status
    → AnswersExplained names a b (Ok answer)
explained_answer names a b due answer reads is = record { due = due; reads = reads; is_due = is }
