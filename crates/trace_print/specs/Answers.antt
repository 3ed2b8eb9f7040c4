-- What reading a line, or a whole trace, answers.
-- Source: this simulator's trace format.
use Rattle.std.specs.Prelude.{◌≡◌, ◌≤◌, ◌<◌, ℕ, List, ◌++◌, drop, length, Result, Ok, Err}
use Rattle.ffm_model.specs.Counts.{ActorCounts}
use Rattle.ffm_model.specs.declared.constants.TheConstants.{MAX_ENTRIES}
use Rattle.ffm_model.specs.declared.machine.Entry.{Entry}
use Rattle.ffm_model.specs.declared.machine.Verdict.{Verdict}
use Rattle.ffm_model.specs.declared.trace.Trace.{Trace}
use Rattle.ffm_model.specs.TraceText.{line, entry_text, verdict_text, EntryFits}
use Rattle.trace_print.specs.declared.error.TraceError.{TraceError}
use Rattle.trace_print.specs.declared.error.TraceError.TheVariants.{Syntax, Memory}
use Rattle.trace_print.specs.declared.whole.TraceLine.{TraceLine}
use Rattle.trace_print.specs.declared.whole.TraceLine.TheVariants as part
use Rattle.trace_print.specs.View.{parts}
use Rattle.trace_print.specs.Lines.{IsWrong, IsFirstWrong}

-- an entry's line stands in front of a text, with room for it after n entries
pub record BeginsWithEntry (counts : ActorCounts) (n : ℕ) (text : List ℕ) (e : Entry) (length_of_line : ℕ) : Type 0 where
  pub line : text ≡ line (entry_text counts e) ++ drop length_of_line text
  pub some : 0 < length_of_line
  pub within : length_of_line ≤ length text
  pub fits : EntryFits counts e
  pub room : n < MAX_ENTRIES

-- what the first line of a text is, after n entries, or that it is wrong
abbrev pub ReadsLine : ActorCounts → ℕ → List ℕ → Result TraceLine ℕ → Type 0
ReadsLine counts n text (Ok (part.Entry e len)) = BeginsWithEntry counts n text e len
ReadsLine counts n text (Ok (part.Verdict v)) = text ≡ line (verdict_text v n)
ReadsLine counts n text (Err k) = IsWrong counts n (parts 10 text) k

-- these entries and this verdict, unless there was no memory
abbrev pub ReadsTrace : List Entry → Verdict → Result Trace TraceError → Type 0
ReadsTrace es v (Ok t) = (t.entries ≡ es) × (t.verdict ≡ v)
ReadsTrace es v (Err (Syntax k)) = ⊥
ReadsTrace es v (Err Memory) = Unit {0}

-- the number of the first wrong line
abbrev pub TellsFirstWrong : ActorCounts → List ℕ → TraceError → Type 0
TellsFirstWrong counts bytes (Syntax k) = IsFirstWrong counts 0 (parts 10 bytes) k
TellsFirstWrong counts bytes Memory = Unit {0}
