-- The entry that a line has in a trace.
-- Source: this simulator's.
use Rattle.std.specs.Prelude.{◌≡◌, ℕ, List}
use Rattle.ffm_model.specs.Actors.{counts_of}
use Rattle.ffm_model.specs.TraceText.{EntryFits, entry_text}
use Rattle.ffm_model.specs.declared.machine.Entry.{Entry}
use Rattle.ffm_model.specs.declared.system.System.{System}

-- the line of an entry in a trace
pub record IsEntryText (s : System) (text : List ℕ) (e : Entry) : Type 0 where
  pub fits : EntryFits (counts_of s) e
  pub same : text ≡ entry_text (counts_of s) e
