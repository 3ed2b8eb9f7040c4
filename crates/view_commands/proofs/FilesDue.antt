-- What came of the files of a trace, out of what was read of them.
use Rattle.std.proofs.Common.{◌≡◌, ◌≤◌, ℕ, length, refl, subst, sym}
use Rattle.std.specs.Prelude.{Result, Ok, Err}
use Rattle.std.specs.List.{AllByRecursion}
use Rattle.ffm_model.specs.declared.constants.TheConstants.{MAX_ENTRIES}
use Rattle.ffm_model.specs.declared.place.Refusal.{Refusal}
use Rattle.ffm_model.specs.declared.trace.Trace.{Trace}
use Rattle.ffm_model.specs.Actors.{counts_of}
use Rattle.ffm_model.specs.Reading.{refused}
use Rattle.ffm_model.specs.TraceText.{trace_text, EntryFits}
use Rattle.command_words.specs.declared.words.Inspection.TheVariants.{Replay}
use Rattle.outside_io.specs.Files.{Asks, FilesSeen, stopped}
use Rattle.outside_io.proofs.FilesSteps.{asks_lost, asks_unrefused}
use Rattle.text_lines.specs.Refusals.{wrong_line}
use Rattle.trace_print.specs.Lines.{IsFirstWrong}
use Rattle.trace_print.specs.View.{parts}
use Rattle.work_orders.specs.View.{IsTraceWork}
use Rattle.work_orders.specs.Work.{Work, judge_of}
use Rattle.work_orders.specs.declared.work.TraceWork.{TraceWork}
use Rattle.view_commands.specs.declared.files.NoTrace.{NoTrace}
use Rattle.view_commands.specs.declared.files.NoTrace.TheVariants.{Refused, File, Memory}
use Rattle.view_aspects.specs.declared.traces.TraceFiles.{TraceFiles}
use Rattle.view_commands.specs.Files.{FilesRead, IsRefusalBy, TraceRead, files_of}
use Rattle.program_words.specs.declared.view.FileNames.{FileNames}

-- a trace was read
pub trace_read : (work : TraceWork) (t : Trace) → IsTraceWork work → work.trace.items ≡ trace_text (counts_of work.system) t.entries t.verdict → AllByRecursion (EntryFits (counts_of work.system)) t.entries → length t.entries ≤ MAX_ENTRIES
    → TraceRead work (Ok (record { work = work; trace = t }))
trace_read work t is text fits few = (refl, record { work = is; read = record { text = text; fits = fits; few = few } })

-- the text is no trace's
pub wrong_read : (work : TraceWork) (k : ℕ) (h : NoTrace) → IsFirstWrong (counts_of work.system) 0 (parts 10 work.trace.items) k → IsRefusalBy (wrong_line k) h → TraceRead work (Err h)
wrong_read work k (Refused line) first by = record { place = k; first = first; text_is = by; status_is = refl }
wrong_read work k File first by = by
wrong_read work k Memory first by = tt

-- all files were read
pub files_read : (names : FileNames) (a b : FilesSeen) (w : TraceWork) (r : Result TraceFiles NoTrace) → w.inspection ≡ Replay → Asks a b (Ok (judge_of w.inspection w.system w.scenario w.trace.items)) (files_of names) → TraceRead w r → FilesRead names a b r
files_read names a b w (Ok f) is asks (same, are) =
    (subst (λ (x : TraceWork). Asks a b (Ok (judge_of Replay x.system x.scenario x.trace.items)) (files_of names)) (sym same) (rw is at asks), are)
files_read names a b w (Err (Refused line)) is asks wrong = (Ok (judge_of w.inspection w.system w.scenario w.trace.items), asks, wrong)
files_read names a b w (Err File) is asks none = absurd none
files_read names a b w (Err Memory) is asks lost = asks_lost a b (judge_of w.inspection w.system w.scenario w.trace.items) (files_of names) asks

-- one of them is refused
pub refused_read : (names : FileNames) (a b : FilesSeen) (r : Refusal) (h : NoTrace) → Asks {A = Work} a b (Err (stopped (refused r))) (files_of names) → IsRefusalBy r h → FilesRead names a b (Err h)
refused_read names a b r (Refused line) asks by = (Err (refused r), asks, by)
refused_read names a b r File asks by = absurd by
refused_read names a b r Memory asks by = asks_unrefused a b (refused r) (files_of names) asks
