-- The text of a call, by the line of the entry that it has with the outcome `done`.
use Rattle.std.proofs.Common.{◌≡◌, ◌++◌, ℕ, List, codes}
use Rattle.std.specs.Prelude.{Err, IfOk, MatchOption, None, Ok, Option, Result, Some}
use Rattle.ffm_model.specs.Actors.{counts_of}
use Rattle.ffm_model.specs.declared.machine.Entry.{Entry}
use Rattle.ffm_model.specs.declared.machine.Memory.{Memory}
use Rattle.ffm_model.specs.declared.system.System.{System}
use Rattle.program_words.specs.Entries.{IsEntryText}
use Rattle.view_aspects.specs.Views.{IsCallText}

pub called : (s : System) (text line : List ℕ) (r : Result (Option Entry) Memory) → line ≡ text ++ codes " -> done" → IfOk r (λ found. MatchOption found ((e : Entry) → IsEntryText s line e → ⊥) (IsEntryText s line))
    → IfOk r (λ found. MatchOption found ((e : Entry) → IsCallText (counts_of s) text e → ⊥) (IsCallText (counts_of s) text))
called s text line (Ok (Some e)) is its = (its.fits, rw is at its.same)
called s text line (Ok None) is none = λ e its. none e (record { fits = its.0; same = rw is its.1 })
called s text line (Err m) is lost = tt
