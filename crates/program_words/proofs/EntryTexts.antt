-- The line of an entry, by the trace that has no other entry.
use Rattle.std.proofs.Common.{◌≡◌, ℕ, ◌≤◌, List, [], ◌∷◌, ◌++◌, ◌∙◌, ap, append_assoc, arith, codes, length, sym}
use Rattle.std.proofs.lemmas.List.{append_cancel_right}
use Rattle.std.specs.Prelude.{Err, MatchOption, None, Ok, Option, Result, Some}
use Rattle.std.specs.Fmt.{digits}
use Rattle.std.specs.List.{AllByRecursion}
use Rattle.ffm_model.specs.Counts.{ActorCounts}
use Rattle.ffm_model.specs.declared.constants.TheConstants.{MAX_ENTRIES}
use Rattle.ffm_model.specs.declared.machine.Entry.{Entry}
use Rattle.ffm_model.specs.declared.machine.Verdict.{Verdict}
use Rattle.ffm_model.specs.declared.machine.Verdict.TheVariants.{Quiet}
use Rattle.ffm_model.specs.declared.trace.Trace.{Trace}
use Rattle.ffm_model.specs.TraceText.{EntryFits, entry_text, trace_text, verdict_text}
use Rattle.trace_print.specs.Answers.{ReadsTrace}
use Rattle.trace_print.specs.declared.error.TraceError.{TraceError}
use Rattle.trace_print.specs.declared.error.TraceError.TheVariants.{Syntax}
use Rattle.ffm_model.specs.declared.system.System.{System}
use Rattle.ffm_model.specs.Actors.{counts_of}
use Rattle.program_words.specs.Entries.{IsEntryText}

abbrev pub end : List ℕ
end = codes "\nquiet 1\n"

-- the text of a quiet trace with one entry
one_entry : (counts : ActorCounts) (e : Entry) → trace_text counts (e ∷ []) Quiet ≡ entry_text counts e ++ end
unfolding verdict_text digits
one_entry counts e = append_assoc (entry_text counts e ++ 10 ∷ []) [] _ ∙ append_assoc (entry_text counts e) (10 ∷ []) _

-- the line is the entry's
is_line : (counts : ActorCounts) (text : List ℕ) (e : Entry) → text ++ end ≡ trace_text counts (e ∷ []) Quiet → text ≡ entry_text counts e
is_line counts text e same = append_cancel_right text (entry_text counts e) end (same ∙ one_entry counts e)

of_line : (counts : ActorCounts) (text : List ℕ) (e : Entry) → text ≡ entry_text counts e → text ++ end ≡ trace_text counts (e ∷ []) Quiet
of_line counts text e same = ap (λ (x : List ℕ). x ++ end) same ∙ sym (one_entry counts e)

-- what is read of the text
abbrev pub Reads : ActorCounts → List ℕ → Result Trace TraceError → Type 0
Reads counts text r = (es : List Entry) (v : Verdict) → AllByRecursion (EntryFits counts) es → length es ≤ MAX_ENTRIES → text ++ end ≡ trace_text counts es v → ReadsTrace es v r

pub line_read : (s : System) (text : List ℕ) (t : Trace) (found : Option Entry) → text ++ end ≡ trace_text (counts_of s) t.entries t.verdict → AllByRecursion (EntryFits (counts_of s)) t.entries → Reads (counts_of s) text (Ok t)
    → MatchOption found ((e : Entry) → t.entries ≡ e ∷ [] → t.verdict ≡ Quiet → ⊥) (λ e. (t.entries ≡ e ∷ []) × (t.verdict ≡ Quiet)) → MatchOption found ((e : Entry) → IsEntryText s text e → ⊥) (IsEntryText s text)
line_read s text t (Some e) same fits reads is =
    let all : AllByRecursion (EntryFits (counts_of s)) (e ∷ []) = rw is.0 at fits in
    record { fits = all.0; same = is_line (counts_of s) text e (rw (is.0, is.1) at same) }
line_read s text t None same fits reads other = λ e its.
    let read = reads (e ∷ []) Quiet (its.fits, tt) (omega arith) (of_line (counts_of s) text e its.same) in
    other e read.0 read.1

pub no_line : (s : System) (text : List ℕ) (k : ℕ) → Reads (counts_of s) text (Err (Syntax k)) → (e : Entry) → IsEntryText s text e → ⊥
no_line s text k reads e its = reads (e ∷ []) Quiet (its.fits, tt) (omega arith) (of_line (counts_of s) text e its.same)
