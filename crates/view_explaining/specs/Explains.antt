-- What is told of files of which the first refusal is asked for: ffm's own line, and words for people behind it.
-- Source: this simulator's.
use Rattle.std.specs.Prelude.{◌≡◌, ◌⊎◌, ◌++◌, ◌≤◌, ℕ, List, length, Result, Ok, Err}
use Rattle.ffm_model.specs.declared.system.System.{System}
use Rattle.ffm_model.specs.Listing.{admitted_line}
use Rattle.ffm_model.specs.Names.{capacity}
use Rattle.ffm_model.specs.Reading.{Stop, missing, refused}
use Rattle.judge_command.specs.Replays.{JudgedDue, WrongDue}
use Rattle.outside_io.specs.Files.{Asks, FilesSeen, failed, no_memory}
use Rattle.text_lines.specs.Refusals.{refusal_line}
use Rattle.program_words.specs.declared.answers.Answer.{Answer}
use Rattle.work_orders.specs.declared.work.TraceWork.{TraceWork}
use Rattle.work_orders.specs.declared.unanswered.Unanswered.{Unanswered}
use Rattle.work_orders.specs.declared.unanswered.Unanswered.TheVariants as unanswered
use Rattle.work_orders.specs.Work.{Work, judge_of, listing_of, make_of, run_of}
use Rattle.program_words.specs.declared.view.ExplainedNames.{ExplainedNames}
use Rattle.view_explaining.specs.Orders.{files_explained, given}

-- nothing is refused of a system: the last line of its listing
abbrev pub AdmittedDue : System → List ℕ → ℕ → Type 0
AdmittedDue s line status = (line ≡ admitted_line (length s.partitions) (length s.services) (capacity s)) × (status ≡ 0)

-- ffm's own line of what files give, and the status: the first refusal, how a trace is judged, or that the system is admitted
abbrev pub LineDue : Result Work Stop → List ℕ → ℕ → Type 0
LineDue (Err (refused r)) line status = (line ≡ refusal_line r) × (status ≡ 1)
LineDue (Err missing) line status = ⊥
LineDue (Ok (listing_of s)) line status = AdmittedDue s line status
LineDue (Ok (run_of threads s c programs)) line status = AdmittedDue s line status
LineDue (Ok (judge_of how s c bytes)) line status = JudgedDue s c bytes line status ⊎ WrongDue s bytes line status
LineDue (Ok (make_of rounds)) line status = ⊥

-- a line with words behind it, and a status
abbrev pub IsFollowed : List ℕ → List ℕ → ℕ → Answer → Type 0
IsFollowed line words status answer = (answer.text.items ≡ line ++ words) × (answer.status ≡ status)

-- the same of words that aren't named
abbrev pub IsFollowedBy : List ℕ → ℕ → Answer → Type 0
IsFollowedBy line status answer = (words : List ℕ) × IsFollowed line words status answer

-- how a trace's text is judged, or the refusal of its first wrong line, with words behind it
abbrev pub IsTraceTold : TraceWork → List ℕ → ℕ → Type 0
IsTraceTold work text status = (line : List ℕ) × (more : List ℕ) × (text ≡ line ++ more)
    × (JudgedDue work.system work.scenario work.trace.items line status ⊎ WrongDue work.system work.trace.items line status)

-- that a system is admitted, with words behind it
abbrev pub IsAdmitted : System → List ℕ → ℕ → Type 0
IsAdmitted s text status = (line : List ℕ) × (more : List ℕ) × (text ≡ line ++ more) × AdmittedDue s line status

-- a text begins with ffm's own line
pub record IsExplained (due : Result Work Stop) (text : List ℕ) (status : ℕ) : Type 0 where
  pub line : List ℕ
  pub more : List ℕ
  pub is : text ≡ line ++ more
  pub is_due : LineDue due line status

-- the statuses of what was answered
abbrev pub IsShownStatus : ℕ → Type 0
IsShownStatus status = (status ≤ 2) ⊎ (status ≡ 6)

-- the files of these names were read, in order and no other, and the text is told of what they give
pub record IsToldOf (names : ExplainedNames) (before after : FilesSeen) (text : List ℕ) (status : ℕ) : Type 0 where
  pub due : Result Work Stop
  pub reads : Asks before after (given due) (files_explained names)
  pub is_due : IsExplained due text status

-- or one of them can't be read, or no memory was found
abbrev pub AnswersExplained : ExplainedNames → FilesSeen → FilesSeen → Result Answer Unanswered → Type 0
AnswersExplained names before after (Ok answer) = IsToldOf names before after answer.text.items answer.status
AnswersExplained names before after (Err unanswered.File) = Asks {A = Work} before after (Err failed) (files_explained names)
AnswersExplained names before after (Err unanswered.Memory) = Asks {A = Work} before after (Err no_memory) (files_explained names)
