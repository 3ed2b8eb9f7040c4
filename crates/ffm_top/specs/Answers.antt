-- The answers of the top call, and their causes.
-- Source: this simulator's exit statuses.
use Rattle.std.specs.Prelude.{ℕ, ◌≡◌, ◌≢◌, ◌<◌, ◌≤◌, ◌⊎◌, List, Option, None, Ok, Err, IfSome}
use Rattle.ffm_model.specs.declared.machine.Entry.{Entry}
use Rattle.ffm_model.specs.Reading.{Contents, Reading}
use Rattle.outside_io.specs.Files.{Asks, FilesSeen, MayHold, failed, no_memory}
use Rattle.outside_io.specs.Sink.{SinkSeen, Hands}
use Rattle.outside_io.specs.Words.{AreGiven}
use Rattle.ffm_top.specs.Due.{Due, LeftBy, asked, IsValid}
use Rattle.command_words.specs.Words.{asks_threads, order_of}

-- 0: done. 1: a file is refused. 2: the words are no command. 4, 5: a run is stalled, full.
-- 6: a trace is illegal. 7: a file can't be read. 8: the text can't be written whole. 9: no memory
abbrev pub IsStatus : ℕ → Type 0
IsStatus status = (status ≤ 2) ⊎ ((4 ≤ status) × (status ≤ 9))

-- the statuses of what was done: listed or made, a run that ended, a trace that was judged
abbrev pub IsDoneStatus : ℕ → Type 0
IsDoneStatus status = (status ≡ 0) ⊎ ((4 ≤ status) × (status ≤ 6))

-- the text is due with this status, by what is held; where no file is asked for, whatever is held
abbrev pub DueOver : List (List ℕ) → Option Contents → List ℕ → ℕ → Type 0
DueOver words held text status =
    (of : Contents) → MayHold held of (asked words of) → Due words of text status

-- a text that is due with this status was written whole; with threads it is that of the run they left
abbrev pub WritesDue :
    List (List ℕ) → Option Contents → Option (List Entry) → SinkSeen → SinkSeen → ℕ → Type 0
WritesDue words held ended before after status =
    (text : List ℕ)
    × DueOver words held text status
    × LeftBy (asks_threads (order_of words)) ended text status
    × Hands {T = Unit {0}} {E = Unit {0}} before after (Ok tt) text

-- such a text, due with some status, wasn't written whole
abbrev pub WritesPart :
    List (List ℕ) → Option Contents → Option (List Entry) → SinkSeen → SinkSeen → Type 0
WritesPart words held ended before after =
    (text : List ℕ) × (status : ℕ)
    × DueOver words held text status
    × LeftBy (asks_threads (order_of words)) ended text status
    × Hands {T = Unit {0}} {E = Unit {0}} before after (Err tt) text

-- the files that the words ask for, as work that gives no more than whether all were read
abbrev pub all_asked : List (List ℕ) → Contents → Reading (Unit {0})
all_asked words of = record { names = asked words of; gives = Ok tt }

-- what these words are answered over these files and this sink; with threads, which left this run
pub record Answered
    (words : List (List ℕ)) (ended : Option (List Entry))
    (files files_after : FilesSeen) (out out_after : SinkSeen) (status : ℕ) : Type 0 where
  pub status_is : IsStatus status
  -- 0 to 6: a text that is due was written whole. 8: a put or the flush failed, and such a text
  -- wasn't. 7 and 9: nothing was written
  pub due : status < 7 → WritesDue words files.held ended out out_after status
  pub part : status ≡ 8 → WritesPart words files.held ended out out_after
  pub nothing : (status ≡ 7) ⊎ (status ≡ 9) → out_after ≡ out
  -- the files that are asked for were read, each as often as it is, and no other. 7: a read failed,
  -- of the last one of a front of them. 9: a front of them was read
  pub read : (status < 7) ⊎ (status ≡ 8)
      → Asks {A = Unit {0}} files files_after (Ok tt) (all_asked words)
  pub read_failed : status ≡ 7 → Asks files files_after (Err failed) (all_asked words)
  pub read_part : status ≡ 9 → Asks files files_after (Err no_memory) (all_asked words)
  -- 2: the words alone decide it
  pub usage : status ≡ 2 → order_of words ≡ None
  pub no_words : order_of words ≡ None → (status ≡ 2) ⊎ (status ≡ 8)
  -- accepted words, files that give no refusal, and no read or write that failed: what was asked for
  -- is done, or no memory was found
  pub complete : IfSome files.held (λ of.
      IsValid words of → status ≢ 7 → status ≢ 8 → IsDoneStatus status ⊎ (status ≡ 9))

-- what a program ends with over these words, if they are told, these files and this sink: the answer
-- to the words, or 9 where no memory was found for them
abbrev pub EndsWith :
    Option (List (List ℕ)) → FilesSeen → FilesSeen → SinkSeen → SinkSeen → ℕ → Type 0
EndsWith told files files_after out out_after status =
    ((words : List (List ℕ))
    × IfSome told (λ given. AreGiven given words)
    × Answered words None files files_after out out_after status)
    ⊎ ((status ≡ 9) × (files_after ≡ files) × (out_after ≡ out))
