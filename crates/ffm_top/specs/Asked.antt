-- What the words and the files ask to be done, as the code has it, and what is due of it.
-- Source: this simulator's.
use Rattle.std.specs.Prelude.{◌≡◌, ℕ, Bool, false, List, Option, None, Some, Result, Ok, Err}
use Rattle.ffm_model.specs.declared.machine.Entry.{Entry}
use Rattle.ffm_model.specs.Reading.{refused}
use Rattle.command_words.specs.Words.{Order}
use Rattle.outside_io.specs.Files.{Asks, FilesSeen, failed, no_memory, stopped}
use Rattle.work_orders.specs.View.{IsWork, threads_of, work}
use Rattle.work_orders.specs.Work.{work_of}
use Rattle.work_orders.specs.declared.unanswered.Unanswered.{Unanswered}
use Rattle.work_orders.specs.declared.unanswered.Unanswered.TheVariants as unanswered
use Rattle.ffm_top.specs.Due.{IsValidWork, LeftBy, WorkDue}
use Rattle.text_lines.specs.Refusals.{refusal_line}
use Rattle.text_lines.specs.Usage.{usage_line}
use Rattle.ffm_top.specs.declared.asked.Asked.{Asked}
use Rattle.ffm_top.specs.declared.asked.Asked.TheVariants as asked

-- words that are no command ask for no file; those of an order ask for its work
abbrev pub AskedBy : Option Order → FilesSeen → FilesSeen → Result Asked Unanswered → Type 0
AskedBy None before after (Ok asked.Usage) = after ≡ before
AskedBy None before after _ = ⊥
AskedBy (Some o) before after (Ok asked.Usage) = ⊥
AskedBy (Some o) before after (Ok (asked.Refused r)) =
    Asks before after (Err (stopped (refused r))) (λ of. work_of of o)
AskedBy (Some o) before after (Ok (asked.Work w)) =
    Asks before after (Ok (work w)) (λ of. work_of of o)
AskedBy (Some o) before after (Err unanswered.File) =
    Asks before after (Err failed) (λ of. work_of of o)
AskedBy (Some o) before after (Err unanswered.Memory) =
    Asks before after (Err no_memory) (λ of. work_of of o)

abbrev pub IsAsked : Asked → Type 0
IsAsked (asked.Work w) = IsWork w
IsAsked _ = Unit {0}

-- the words are a command's
abbrev pub IsToDo : Asked → Type 0
IsToDo asked.Usage = ⊥
IsToDo _ = Unit {0}

-- whether a run with threads is to be done
abbrev pub wants_threads : Asked → Bool
wants_threads (asked.Work w) = threads_of w
wants_threads _ = false

-- work that is to be done with threads exactly where this says so
abbrev pub TakesThreads : Bool → Asked → Type 0
TakesThreads threads (asked.Work w) = threads_of w ≡ threads
TakesThreads threads _ = Unit {0}

-- the text and the status that it calls for; with threads, where they left this run
abbrev pub AskedDue : Asked → Option (List Entry) → List ℕ → ℕ → Type 0
AskedDue asked.Usage ended text status = (text ≡ usage_line) × (status ≡ 2)
AskedDue (asked.Refused r) ended text status = (text ≡ refusal_line r) × (status ≡ 1)
AskedDue (asked.Work w) ended text status = WorkDue (work w) text status × LeftBy (threads_of w) ended text status

-- work for which no file is refused
abbrev pub IsValidAsked : Asked → Type 0
IsValidAsked (asked.Work w) = IsValidWork (work w)
IsValidAsked _ = ⊥
