-- Which text and which status the words and the files call for, and what is made of files and sink.
-- Source: this simulator's.
use Rattle.std.specs.Prelude.{◌≡◌, ◌⊎◌, ◌≤◌, ℕ, List, Option, None, IfSome, true, Result, Ok, Err, if◌then◌else◌, max}
use Rattle.command_words.specs.Words.{run}
use Rattle.ffm_model.specs.declared.scenario.Scenario.{Scenario}
use Rattle.ffm_model.specs.declared.system.System.{System}
use Rattle.ffm_model.specs.Reading.{Contents, Reading, Stop, refused}
use Rattle.actor_programs.specs.declared.program.Program.{Program}
use Rattle.file_places.specs.declared.kept.KeptFile.{KeptFile}
use Rattle.outside_io.specs.Files.{Asks, FilesSeen, NoValue, failed, no_memory, stopped}
use Rattle.outside_io.specs.Sink.{SinkSeen}
use Rattle.outside_io.specs.Words.{AreGiven}
use Rattle.text_lines.specs.Refusals.{refusal_line}
use Rattle.work_orders.specs.Work.{Work, run_of, work_of}
use Rattle.work_orders.specs.declared.unanswered.Unanswered.{Unanswered}
use Rattle.work_orders.specs.declared.unanswered.Unanswered.TheVariants as unanswered
use Rattle.explore_commands.specs.Findings.{AreFindings, status_of, text_of}
use Rattle.program_words.specs.Explore.{AsksFor, IsTold}
use Rattle.explore_commands.specs.Rescheduling.{bytes_kept}
use Rattle.explore_commands.specs.declared.exploring.Findings.{Findings}
use Rattle.program_words.specs.Answers.{IsAnswered}
use Rattle.program_words.specs.declared.answers.Answer.{Answer}
use Rattle.program_words.specs.declared.explore.Request.{Request}

-- 0: each run ends quiet, none comes to what is sought, or all outcomes of a line are told. 1: a file is refused. 2: the
-- words are no command, or name what isn't there. 4: some run stalls, or what is sought was found. 5: not all is explored.
-- 6: no run stalls, but some goes on for ever, or as far as it may. 7: a file can't be read. 8: the text can't be written.
-- 9: no memory
abbrev pub IsStatus : ℕ → Type 0
IsStatus status = (status ≤ 2) ⊎ ((4 ≤ status) × (status ≤ 9))

-- the statuses of what was answered
abbrev pub IsFoundStatus : ℕ → Type 0
IsFoundStatus status = (status ≤ 2) ⊎ ((4 ≤ status) × (status ≤ 6))

-- the files are those of a run with threads, which is of one run in any order of turns
abbrev pub files_asked : Request → Contents → Reading Work
files_asked r of = work_of of (run true r.names.system.now r.names.scenario.now)

-- what was read of the scenario's file, where that is to be written again
abbrev pub bytes_asked : Request → List KeptFile → Option (List ℕ)
bytes_asked r kept = if r.as_scenario then bytes_kept kept r.names.scenario.now else None

-- what is found of the interleavings of a scenario's programs
pub record IsFound (s : System) (c : Scenario) (programs : List Program) (r : Request) (kept : List KeptFile) (text : List ℕ) (status : ℕ) : Type 0 where
  pub found : Findings
  pub are : AreFindings s c programs r.question (max r.states 1) found
  pub text_is : text ≡ text_of s (bytes_asked r kept) found
  pub status_is : status ≡ status_of found

-- a file is refused, or the question is answered
abbrev pub AnswerDue : Request → List KeptFile → Result Work Stop → List ℕ → ℕ → Type 0
AnswerDue r kept (Err (refused f)) text status = (text ≡ refusal_line f) × (status ≡ 1)
AnswerDue r kept (Ok (run_of threads s c programs)) text status = IsFound s c programs r kept text status
AnswerDue r kept _ text status = ⊥

-- what the files give
abbrev pub given : Result Work Stop → Result Work NoValue
given (Ok work) = Ok work
given (Err s) = Err (stopped s)

-- the files that are asked for were read, in order and no other, and the text is due of what they give
pub record IsAnswer (r : Request) (before after : FilesSeen) (kept : List KeptFile) (text : List ℕ) (status : ℕ) : Type 0 where
  pub due : Result Work Stop
  pub reads : Asks before after (given due) (files_asked r)
  pub is_due : AnswerDue r kept due text status

-- the words are no command or ask for help or the version, and no file is read; or what they ask is answered
abbrev pub Due : List (List ℕ) → FilesSeen → FilesSeen → List KeptFile → List ℕ → ℕ → Type 0
Due words before after kept text status =
    (IsTold words status × (after ≡ before))
    ⊎ ((r : Request) × AsksFor words r × IsAnswer r before after kept text status)

-- a file that the words ask for can't be read: the last one of those in front that were read
abbrev pub Unread : List (List ℕ) → FilesSeen → FilesSeen → Type 0
Unread words before after = (r : Request) × AsksFor words r × Asks {A = Work} before after (Err failed) (files_asked r)

-- no memory was found; of the files that the words ask for none was read yet, or some of those in front, or all
abbrev pub Unfinished : List (List ℕ) → FilesSeen → FilesSeen → Type 0
Unfinished words before after =
    (after ≡ before)
    ⊎ ((r : Request) × AsksFor words r × Asks {A = Work} before after (Err no_memory) (files_asked r))

-- what these words are answered over these files, of which what was read is kept, and this sink
abbrev pub Answered :
    List (List ℕ) → FilesSeen → FilesSeen → List KeptFile → SinkSeen → SinkSeen → ℕ → Type 0
Answered words files files_after kept out out_after status =
    IsAnswered IsStatus (Due words files files_after kept) (Unread words files files_after)
    (Unfinished words files files_after) out out_after status

-- what a program ends with over these words, if they are told, these files and this sink
abbrev pub EndsWith :
    Option (List (List ℕ)) → FilesSeen → FilesSeen → List KeptFile → SinkSeen → SinkSeen → ℕ → Type 0
EndsWith told files files_after kept out out_after status =
    (words : List (List ℕ))
    × IfSome told (λ given. AreGiven given words)
    × Answered words files files_after kept out out_after status

-- ---- what the code answers on the way

abbrev pub AnswersRequest : Request → FilesSeen → FilesSeen → List KeptFile → Result Answer Unanswered → Type 0
AnswersRequest r before after kept (Ok answer) = IsAnswer r before after kept answer.text.items answer.status
AnswersRequest r before after kept (Err unanswered.File) = Asks {A = Work} before after (Err failed) (files_asked r)
AnswersRequest r before after kept (Err unanswered.Memory) = Asks {A = Work} before after (Err no_memory) (files_asked r)

abbrev pub AnswersWords : List (List ℕ) → FilesSeen → FilesSeen → List KeptFile → Result Answer Unanswered → Type 0
AnswersWords words before after kept (Ok answer) = Due words before after kept answer.text.items answer.status
AnswersWords words before after kept (Err unanswered.File) = Unread words before after
AnswersWords words before after kept (Err unanswered.Memory) = Unfinished words before after
