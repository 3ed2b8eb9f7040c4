-- The lines of a trace, and which line of a text that is none is the first wrong one.
-- Source: this simulator's trace format.
use Rattle.std.specs.Prelude.{◌≡◌, ◌≢◌, ◌≤◌, ◌<◌, ℕ, ◌+◌, List, [], ◌∷◌, Option, None, Some, if◌then◌else◌}
use Rattle.std.specs.Str.{bytes_eq}
use Rattle.ffm_model.specs.Counts.{ActorCounts}
use Rattle.ffm_model.specs.declared.machine.Entry.{Entry}
use Rattle.ffm_model.specs.declared.machine.Verdict.{Verdict}
use Rattle.ffm_model.specs.declared.machine.Verdict.TheVariants.{Quiet, Stalled, Full}
use Rattle.ffm_model.specs.declared.constants.TheConstants.{MAX_ENTRIES}
use Rattle.ffm_model.specs.TraceText.{Word, entry_text, verdict_text, EntryFits}

-- the verdict whose text this is, after n entries
unfoldable pub verdict_of : ℕ → List ℕ → Option Verdict
verdict_of n text =
    if bytes_eq (verdict_text Quiet n) text then Some Quiet
    else (if bytes_eq (verdict_text Stalled n) text then Some Stalled
    else (if bytes_eq (verdict_text Full n) text then Some Full else None))

-- the text is that of an entry in range
abbrev pub IsEntryText : ActorCounts → List ℕ → Type 0
IsEntryText counts text = (e : Entry) × EntryFits counts e × (text ≡ entry_text counts e)

-- the text is that of a verdict after n entries
abbrev pub IsVerdictText : ℕ → List ℕ → Type 0
IsVerdictText n text = (v : Verdict) × (text ≡ verdict_text v n)

-- what is wrong with the first of the parts between line feeds, after n entries, and the number of the line that is wrong
pub data IsWrong (counts : ActorCounts) (n : ℕ) : List Word → ℕ → Type 0 where
  -- no line feed ends it
  unended : (text : Word) → IsWrong counts n (text ∷ []) (n + 1)
  -- it is neither an entry's text nor that of a verdict with this count
  neither : (text : Word) (rest : List Word) → (IsEntryText counts text → ⊥) → (IsVerdictText n text → ⊥) → IsWrong counts n (text ∷ rest) (n + 1)
  -- it is an entry's, and there are as many entries as a trace may have
  one_too_many : (text : Word) (rest : List Word) → IsEntryText counts text → MAX_ENTRIES ≤ n → IsWrong counts n (text ∷ rest) (n + 1)
  -- something stands after the verdict's line
  past_end : (text next : Word) (rest : List Word) → IsVerdictText n text → next ∷ rest ≢ [] ∷ [] → IsWrong counts n (text ∷ next ∷ rest) (n + 2)

-- after n entries: texts of further entries, and then the first wrong line
pub data IsFirstWrong (counts : ActorCounts) : ℕ → List Word → ℕ → Type 0 where
  here : (n : ℕ) (texts : List Word) (k : ℕ) → IsWrong counts n texts k → IsFirstWrong counts n texts k
  later : (n : ℕ) (text : Word) (rest : List Word) (k : ℕ) → IsEntryText counts text → n < MAX_ENTRIES → IsFirstWrong counts (n + 1) rest k → IsFirstWrong counts n (text ∷ rest) k
