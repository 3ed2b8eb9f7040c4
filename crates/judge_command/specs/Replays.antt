-- A trace that is judged, and the line that says how.
-- Source: this simulator's.
use Rattle.std.specs.Prelude.{◌≡◌, ◌≤◌, ℕ, List, [], ◌∷◌, ◌++◌, length, codes}
use Rattle.std.specs.Fmt.{decimal}
use Rattle.std.specs.List.{AllByRecursion}
use Rattle.ffm_model.specs.declared.constants.TheConstants.{MAX_ENTRIES}
use Rattle.ffm_model.specs.declared.machine.Entry.{Entry}
use Rattle.ffm_model.specs.declared.machine.Verdict.{Verdict}
use Rattle.ffm_model.specs.declared.scenario.Scenario.{Scenario}
use Rattle.ffm_model.specs.declared.system.System.{System}
use Rattle.ffm_model.specs.Actors.{counts_of}
use Rattle.ffm_model.specs.Memory.{opening_memory}
use Rattle.ffm_model.specs.TraceText.{trace_text, EntryFits}
use Rattle.ffm_model.specs.Verdicts.{Judgement, Legal, IllegalAt, judged}
use Rattle.text_lines.specs.Refusals.{refusal_line, wrong_line}
use Rattle.trace_print.specs.Lines.{IsFirstWrong}
use Rattle.trace_print.specs.View.{parts}

-- the bytes are the text of these entries, all in range and of the system's actors, and this verdict
pub record IsTextOf (s : System) (bytes : List ℕ) (es : List Entry) (v : Verdict) : Type 0 where
  pub text : bytes ≡ trace_text (counts_of s) es v
  pub fits : AllByRecursion (EntryFits (counts_of s)) es
  pub few : length es ≤ MAX_ENTRIES

-- the bytes are the text of a trace
abbrev pub IsTraceText : System → List ℕ → Type 0
IsTraceText s bytes = (es : List Entry) × (v : Verdict) × IsTextOf s bytes es v

-- `legal` and the number of entries, or `illegal` and the place
unfoldable pub judgement_line : Judgement → ℕ → List ℕ
judgement_line Legal count = codes "legal " ++ (decimal count ++ 10 ∷ [])
judgement_line (IllegalAt place) count = codes "illegal " ++ (decimal place ++ 10 ∷ [])

abbrev pub judgement_status : Judgement → ℕ
judgement_status Legal = 0
judgement_status (IllegalAt place) = 6

abbrev pub judgement_of : System → Scenario → List Entry → Verdict → Judgement
judgement_of s c es v = judged s (opening_memory c.memory) c.limit es v

-- the bytes are a trace's text, and the line is that of its judgement
pub record JudgedDue (s : System) (c : Scenario) (bytes text : List ℕ) (status : ℕ) : Type 0 where
  pub entries : List Entry
  pub ended : Verdict
  pub read : IsTextOf s bytes entries ended
  pub text_is : text ≡ judgement_line (judgement_of s c entries ended) (length entries)
  pub status_is : status ≡ judgement_status (judgement_of s c entries ended)

-- the bytes are no trace's text, and the line refuses their first wrong line
pub record WrongDue (s : System) (bytes text : List ℕ) (status : ℕ) : Type 0 where
  pub place : ℕ
  pub first : IsFirstWrong (counts_of s) 0 (parts 10 bytes) place
  pub text_is : text ≡ refusal_line (wrong_line place)
  pub status_is : status ≡ 1
