-- Which files of a trace are read, and which line refuses them.
-- Source: this simulator's; the refusals are those of `ffm replay`.
use Rattle.std.specs.Prelude.{◌≡◌, ℕ, List, Result, Ok, Err}
use Rattle.command_words.specs.declared.words.Inspection.TheVariants.{Replay}
use Rattle.command_words.specs.Words.{Order, judge}
use Rattle.ffm_model.specs.declared.place.Refusal.{Refusal}
use Rattle.ffm_model.specs.Reading.{Contents, Reading, Stop, refused}
use Rattle.judge_command.specs.Replays.{WrongDue}
use Rattle.outside_io.specs.Files.{Asks, FilesSeen, failed, no_memory}
use Rattle.text_lines.specs.Refusals.{refusal_line}
use Rattle.work_orders.specs.Work.{Work, judge_of, work_of}
use Rattle.work_orders.specs.declared.work.TraceWork.{TraceWork}
use Rattle.view_explaining.specs.Orders.{files_explained, given}
use Rattle.view_commands.specs.declared.files.NoTrace.{NoTrace}
use Rattle.view_commands.specs.declared.files.NoTrace.TheVariants as no_trace
use Rattle.view_aspects.specs.Traces.{AreTraceFiles}
use Rattle.view_aspects.specs.declared.traces.TraceFiles.{TraceFiles}
use Rattle.program_words.specs.declared.view.Asked.{Asked}
use Rattle.program_words.specs.declared.view.Asked.TheVariants as asked
use Rattle.program_words.specs.declared.view.FileNames.{FileNames}

-- the files are those of `ffm replay`
abbrev pub order_of_files : FileNames → Order
order_of_files names = judge Replay names.system.now names.scenario.now names.trace.now

-- which files are read, in which order, and what they give
abbrev pub files_of : FileNames → Contents → Reading Work
files_of names of = work_of of (order_of_files names)

-- which files the words ask for, in which order, and what they give
abbrev pub files_asked : Asked → Contents → Reading Work
files_asked (asked.View r) of = files_of r.names of
files_asked (asked.Explain names) of = files_explained names of

-- the line of this refusal
abbrev pub IsRefusalBy : Refusal → NoTrace → Type 0
IsRefusalBy r (no_trace.Refused line) = line.items ≡ refusal_line r
IsRefusalBy r no_trace.Memory = Unit {0}
IsRefusalBy r no_trace.File = ⊥

-- ffm's own line: of the first refused file, or of the first wrong line of a text that is no trace's
abbrev pub RefusalDue : Result Work Stop → List ℕ → Type 0
RefusalDue (Err (refused r)) line = line ≡ refusal_line r
RefusalDue (Ok (judge_of how s c bytes)) line = WrongDue s bytes line 1
RefusalDue _ line = ⊥

-- the trace whose text the work has, or the refusal of its first wrong line
abbrev pub TraceRead : TraceWork → Result TraceFiles NoTrace → Type 0
TraceRead work (Ok f) = (f.work ≡ work) × AreTraceFiles f
TraceRead work (Err (no_trace.Refused line)) = WrongDue work.system work.trace.items line.items 1
TraceRead work (Err no_trace.File) = ⊥
TraceRead work (Err no_trace.Memory) = Unit {0}

-- these files were read, in order, and give this work, or are refused; or one can't be read, or
-- no memory was found
abbrev pub FilesRead : FileNames → FilesSeen → FilesSeen → Result TraceFiles NoTrace → Type 0
FilesRead names before after (Ok f) =
    Asks before after (Ok (judge_of Replay f.work.system f.work.scenario f.work.trace.items)) (files_of names)
    × AreTraceFiles f
FilesRead names before after (Err (no_trace.Refused line)) =
    (due : Result Work Stop) × Asks before after (given due) (files_of names) × RefusalDue due line.items
FilesRead names before after (Err no_trace.File) = Asks before after (Err failed) (files_of names)
FilesRead names before after (Err no_trace.Memory) = Asks before after (Err no_memory) (files_of names)
