-- What is due of the words and the files, out of what was read and shown.
use Rattle.std.proofs.Common.{◌≡◌, ◌≢◌, ℕ, ◌<◌, List, [], arith, inl, inr, refl, subst, sym}
use Rattle.std.specs.Prelude.{◌⊎◌, Option, None, Some, Result, Ok, Err}
use Rattle.clap.specs.Words.{kind_of}
use Rattle.clap.specs.declared.error.Error.{Error}
use Rattle.clap.specs.declared.error.kind.ErrorKind.TheVariants as kind
use Rattle.command_words.specs.declared.words.Inspection.TheVariants.{Replay}
use Rattle.outside_io.specs.Files.{Asks, FilesSeen, no_memory}
use Rattle.outside_io.specs.Sink.{Hands, SinkSeen}
use Rattle.outside_io.proofs.FilesSteps.{asks_lost}
use Rattle.work_orders.specs.Work.{Work, judge_of}
use Rattle.work_orders.specs.declared.unanswered.Unanswered.{Unanswered}
use Rattle.work_orders.specs.declared.unanswered.Unanswered.TheVariants as unanswered
use Rattle.program_words.proofs.Answering.{file_unread, no_memory_found, part, whole}
use Rattle.program_words.specs.declared.answers.Answer.{Answer}
use Rattle.program_words.specs.declared.view.ExplainedNames.{ExplainedNames}
use Rattle.view_explaining.specs.Explains.{AnswersExplained, IsShownStatus}
use Rattle.view_aspects.specs.declared.traces.TraceFiles.{TraceFiles}
use Rattle.view_commands.specs.Answers.{Answered, AnswersAsked, AnswersWords, Due, EndsWith, IsAnswer, IsStatus, Unfinished, Unread}
use Rattle.view_aspects.specs.Written.{Shows}
use Rattle.view_commands.specs.Files.{FilesRead, files_of}
use Rattle.program_words.specs.declared.view.Asked.{Asked}
use Rattle.program_words.specs.declared.view.Asked.TheVariants as asked
use Rattle.program_words.specs.declared.view.Request.{Request}
use Rattle.program_words.specs.Arguments.{told_status}
use Rattle.program_words.specs.View.{AsksFor, IsTold}

-- ---- the answer to a request

-- what is asked for is shown of the files that were read
pub shown_answer : (r : Request) (a b : FilesSeen) (f : TraceFiles) (text : List ℕ) (status : ℕ) → FilesRead r.names a b (Ok f) → Shows f r text status → IsAnswer (asked.View r) a b text status
shown_answer r a b f text status read shows = record {
  due = Ok (judge_of Replay f.work.system f.work.scenario f.work.trace.items);
  reads = read.0;
  is_due = inr (record { files = f; work = refl; are = read.1; shows = shows });
}

-- no memory was found to show it
pub unshown : (r : Request) (a b : FilesSeen) (f : TraceFiles) → FilesRead r.names a b (Ok f) → Asks {A = Work} a b (Err no_memory) (files_of r.names)
unshown r a b f read = asks_lost a b (judge_of Replay f.work.system f.work.scenario f.work.trace.items) (files_of r.names) read.0

-- ---- what is told of files

pub explained_answer : (names : ExplainedNames) (a b : FilesSeen) (result : Result Answer Unanswered) → AnswersExplained names a b result → AnswersAsked (asked.Explain names) a b result
explained_answer names a b (Ok answer) is = record { due = is.due; reads = is.reads; is_due = is.is_due }
explained_answer names a b (Err unanswered.File) is = is
explained_answer names a b (Err unanswered.Memory) is = is

-- ---- the answer to the words

-- they ask for this
pub asked_answer : (words : List (List ℕ)) (r : Asked) (a b : FilesSeen) (result : Result Answer Unanswered) → AsksFor words r → AnswersAsked r a b result → AnswersWords words a b result
asked_answer words r a b (Ok answer) asks is = inr (r, asks, is)
asked_answer words r a b (Err unanswered.File) asks is = (r, asks, is)
asked_answer words r a b (Err unanswered.Memory) asks is = inr (r, asks, is)

-- they ask for nothing, and were answered
pub told_answer : (words : List (List ℕ)) (e : Error) (a : FilesSeen) (answer : Answer) → (kind_of e ≡ kind.OutOfMemory) ⊎ IsTold words (told_status (kind_of e)) → answer.status ≡ told_status (kind_of e)
    → kind_of e ≢ kind.OutOfMemory → AnswersWords words a a (Ok answer)
told_answer words e a answer (inl memory) status other = absurd (other memory)
told_answer words e a answer (inr told) status other = inl (subst (IsTold words) (sym status) told, refl)

-- ---- what is made of files and sink

is_status : (status : ℕ) → IsShownStatus status → IsStatus status
is_status status (inl few) = inl few
is_status status (inr six) = inr (omega arith, omega arith)

below_seven : (status : ℕ) → IsShownStatus status → status < 7
below_seven status (inl few) = omega arith
below_seven status (inr six) = omega arith

-- the text was written whole
pub answered_whole : (words : List (List ℕ)) (f g : FilesSeen) (out after : SinkSeen) (text : List ℕ) (status : ℕ) → Due words f g text status → IsShownStatus status → Hands {E = Unit {0}} out after (Ok (tt {0})) text → Answered words f g out after status
answered_whole words f g out after text status due is hands = whole IsStatus (Due words f g) (Unread words f g) (Unfinished words f g) out after text status (is_status status is) (below_seven status is) due hands

-- it wasn't
pub answered_part : (words : List (List ℕ)) (f g : FilesSeen) (out after : SinkSeen) (text : List ℕ) (status : ℕ) → Due words f g text status → Hands {T = Unit {0}} out after (Err (tt {0})) text → Answered words f g out after 8
answered_part words f g out after text status due hands = part IsStatus (Due words f g) (Unread words f g) (Unfinished words f g) out after text status (inr (omega arith, omega arith)) due hands

-- a file wasn't read
pub answered_unread : (words : List (List ℕ)) (f g : FilesSeen) (out : SinkSeen) → Unread words f g → Answered words f g out out 7
answered_unread words f g out unread = file_unread IsStatus (Due words f g) (Unread words f g) (Unfinished words f g) out (inr (omega arith, omega arith)) unread

-- no memory was found
pub answered_unfinished : (words : List (List ℕ)) (f g : FilesSeen) (out : SinkSeen) → Unfinished words f g → Answered words f g out out 9
answered_unfinished words f g out unfinished = no_memory_found IsStatus (Due words f g) (Unread words f g) (Unfinished words f g) out (inr (omega arith, omega arith)) unfinished

-- ---- the program

-- no memory was found for its words
pub ends_unread : (told : Option (List (List ℕ))) (f : FilesSeen) (out : SinkSeen) → EndsWith told f f out out 9
ends_unread None f out = ([], tt, answered_unfinished [] f f out (inl refl))
ends_unread (Some given) f out = (given, inl refl, answered_unfinished given f f out (inl refl))
