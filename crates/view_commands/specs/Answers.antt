-- Which text and which status the words and the files call for, and what is made of files and sink.
-- Source: this simulator's.
use Rattle.std.specs.Prelude.{◌≡◌, ◌⊎◌, ◌≤◌, ℕ, List, Option, IfSome, Result, Ok, Err}
use Rattle.command_words.specs.declared.words.Inspection.TheVariants.{Replay}
use Rattle.ffm_model.specs.Reading.{Stop}
use Rattle.outside_io.specs.Files.{Asks, FilesSeen, failed, no_memory}
use Rattle.outside_io.specs.Sink.{SinkSeen}
use Rattle.outside_io.specs.Words.{AreGiven}
use Rattle.work_orders.specs.Work.{Work, judge_of}
use Rattle.work_orders.specs.declared.unanswered.Unanswered.{Unanswered}
use Rattle.work_orders.specs.declared.unanswered.Unanswered.TheVariants as unanswered
use Rattle.program_words.specs.Answers.{IsAnswered}
use Rattle.program_words.specs.declared.answers.Answer.{Answer}
use Rattle.view_explaining.specs.Explains.{IsExplained}
use Rattle.view_explaining.specs.Orders.{given}
use Rattle.view_aspects.specs.Traces.{AreTraceFiles}
use Rattle.view_aspects.specs.Written.{Shows}
use Rattle.view_aspects.specs.declared.traces.TraceFiles.{TraceFiles}
use Rattle.view_commands.specs.Files.{RefusalDue, files_asked}
use Rattle.program_words.specs.View.{AsksFor, IsTold}
use Rattle.program_words.specs.declared.view.Asked.{Asked}
use Rattle.program_words.specs.declared.view.Asked.TheVariants as asked
use Rattle.program_words.specs.declared.view.Request.{Request}

-- 0: shown. 1: a file is refused. 2: the words are no command, or name a place that the trace doesn't
-- have. 6: the trace is illegal. 7: a file can't be read. 8: the text can't be written. 9: no memory
abbrev pub IsStatus : ℕ → Type 0
IsStatus status = (status ≤ 2) ⊎ ((6 ≤ status) × (status ≤ 9))

-- what is asked for is shown of the trace that the files are to give
pub record IsShown (due : Result Work Stop) (r : Request) (text : List ℕ) (status : ℕ) : Type 0 where
  pub files : TraceFiles
  pub work : due ≡ Ok (judge_of Replay files.work.system files.work.scenario files.work.trace.items)
  pub are : AreTraceFiles files
  pub shows : Shows files r text status

-- a file is refused, or what is asked for is shown
abbrev pub ViewDue : Result Work Stop → Request → List ℕ → ℕ → Type 0
ViewDue due r text status = (RefusalDue due text × (status ≡ 1)) ⊎ IsShown due r text status

-- what is asked for is due of what the files give
abbrev pub AskedDue : Asked → Result Work Stop → List ℕ → ℕ → Type 0
AskedDue (asked.View r) due text status = ViewDue due r text status
AskedDue (asked.Explain names) due text status = IsExplained due text status

-- the files that are asked for were read, in order and no other, and the text is due of what they give
pub record IsAnswer
    (a : Asked) (before after : FilesSeen) (text : List ℕ) (status : ℕ) : Type 0 where
  pub due : Result Work Stop
  pub reads : Asks before after (given due) (files_asked a)
  pub is_due : AskedDue a due text status

-- the words are no command or ask for help or the version, and no file is read; or what they ask
-- for is shown
abbrev pub Due : List (List ℕ) → FilesSeen → FilesSeen → List ℕ → ℕ → Type 0
Due words before after text status =
    (IsTold words status × (after ≡ before))
    ⊎ ((a : Asked) × AsksFor words a × IsAnswer a before after text status)

-- a file that the words ask for can't be read: the last one of those in front that were read
abbrev pub Unread : List (List ℕ) → FilesSeen → FilesSeen → Type 0
Unread words before after =
    (a : Asked) × AsksFor words a × Asks {A = Work} before after (Err failed) (files_asked a)

-- no memory was found, where none of the files that the words ask for was read yet, or some of
-- those in front
abbrev pub Unfinished : List (List ℕ) → FilesSeen → FilesSeen → Type 0
Unfinished words before after =
    (after ≡ before)
    ⊎ ((a : Asked) × AsksFor words a × Asks {A = Work} before after (Err no_memory) (files_asked a))

-- what these words are answered over these files and this sink
abbrev pub Answered :
    List (List ℕ) → FilesSeen → FilesSeen → SinkSeen → SinkSeen → ℕ → Type 0
Answered words files files_after out out_after status =
    IsAnswered IsStatus (Due words files files_after) (Unread words files files_after)
    (Unfinished words files files_after) out out_after status

-- what a program ends with over these words, if they are told, these files and this sink
abbrev pub EndsWith :
    Option (List (List ℕ)) → FilesSeen → FilesSeen → SinkSeen → SinkSeen → ℕ → Type 0
EndsWith told files files_after out out_after status =
    (words : List (List ℕ))
    × IfSome told (λ given. AreGiven given words)
    × Answered words files files_after out out_after status

-- ---- what the code answers on the way

abbrev pub AnswersAsked : Asked → FilesSeen → FilesSeen → Result Answer Unanswered → Type 0
AnswersAsked a before after (Ok answer) = IsAnswer a before after answer.text.items answer.status
AnswersAsked a before after (Err unanswered.File) =
    Asks {A = Work} before after (Err failed) (files_asked a)
AnswersAsked a before after (Err unanswered.Memory) =
    Asks {A = Work} before after (Err no_memory) (files_asked a)

abbrev pub AnswersWords : List (List ℕ) → FilesSeen → FilesSeen → Result Answer Unanswered → Type 0
AnswersWords words before after (Ok answer) = Due words before after answer.text.items answer.status
AnswersWords words before after (Err unanswered.File) = Unread words before after
AnswersWords words before after (Err unanswered.Memory) = Unfinished words before after
