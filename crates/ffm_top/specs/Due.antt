-- Which text and which status the words and the named files call for, and which files they ask for.
-- Source: this simulator's.
use Rattle.std.specs.Prelude.{◌≡◌, ◌≢◌, ℕ, Bool, true, false, List, [], Option, None, Some, Result, Ok, Err, IfSome, IsOkAnd}
use Rattle.ffm_model.specs.declared.machine.Entry.{Entry}
use Rattle.ffm_model.specs.declared.machine.Verdict.{Verdict}
use Rattle.ffm_model.specs.declared.system.System.{System}
use Rattle.ffm_model.specs.Counts.{ActorCounts}
use Rattle.ffm_model.specs.Listing.{listing}
use Rattle.ffm_model.specs.TraceText.{trace_text}
use Rattle.ffm_model.specs.Reading.{Contents, Stop, refused, missing}
use Rattle.ffm_top.specs.Makes.{MadeDue}
use Rattle.ffm_top.specs.Runs.{RunDue}
use Rattle.command_words.specs.Words.{Order, order_of}
use Rattle.judge_command.specs.Due.{TraceDue}
use Rattle.judge_command.specs.Replays.{IsTraceText}
use Rattle.text_lines.specs.Refusals.{refusal_line}
use Rattle.text_lines.specs.Usage.{usage_line}
use Rattle.work_orders.specs.Work.{Work, listing_of, run_of, judge_of, make_of, work_of}

-- a system's text is its listing
abbrev pub ListingDue : System → List ℕ → ℕ → Type 0
ListingDue s text status = (text ≡ listing s) × (status ≡ 0)

abbrev pub WorkDue : Work → List ℕ → ℕ → Type 0
WorkDue (listing_of s) text status = ListingDue s text status
WorkDue (run_of threads s c programs) text status = RunDue s c programs threads text status
WorkDue (judge_of how s c bytes) text status = TraceDue how s c bytes text status
WorkDue (make_of rounds) text status = MadeDue rounds text status

abbrev pub DueBy : Result Work Stop → List ℕ → ℕ → Type 0
DueBy (Ok work) text status = WorkDue work text status
DueBy (Err (refused r)) text status = (text ≡ refusal_line r) × (status ≡ 1)
DueBy (Err missing) text status = ⊥

abbrev pub OrderDue : Option Order → Contents → List ℕ → ℕ → Type 0
OrderDue None of text status = (text ≡ usage_line) × (status ≡ 2)
OrderDue (Some order) of text status = DueBy (work_of of order).gives text status

-- the words and what the names hold call for this text and this status
abbrev pub Due : List (List ℕ) → Contents → List ℕ → ℕ → Type 0
Due words of text status = OrderDue (order_of words) of text status

-- with threads, the text is that of the run that they left, where it is told, unless it is a refusal's
abbrev pub LeftBy : Bool → Option (List Entry) → List ℕ → ℕ → Type 0
LeftBy false ended text status = Unit {0}
LeftBy true ended text status = status ≢ 1 → IfSome ended (λ es. (counts : ActorCounts) × (v : Verdict) × (text ≡ trace_text counts es v))

abbrev pub names_asked : Option Order → Contents → List (List ℕ)
names_asked None of = []
names_asked (Some order) of = (work_of of order).names

-- the names of the files that are read before the first refusal
abbrev pub asked : List (List ℕ) → Contents → List (List ℕ)
asked words of = names_asked (order_of words) of

-- no file is refused for what is asked for; a trace file is refused where it is no trace's text
abbrev pub IsValidWork : Work → Type 0
IsValidWork (listing_of s) = Unit {0}
IsValidWork (run_of threads s c programs) = Unit {0}
IsValidWork (judge_of how s c bytes) = IsTraceText s bytes
IsValidWork (make_of rounds) = Unit {0}

abbrev pub IsValidBy : Option Order → Contents → Type 0
IsValidBy None of = ⊥
IsValidBy (Some order) of = IsOkAnd (work_of of order).gives IsValidWork

-- the words are accepted, and the files give no refusal
abbrev pub IsValid : List (List ℕ) → Contents → Type 0
IsValid words of = IsValidBy (order_of words) of
