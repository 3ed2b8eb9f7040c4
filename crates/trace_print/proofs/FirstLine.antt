-- The first line of a text, which a line feed ends.
use Rattle.std.proofs.Common.{◌≡◌, ℕ, suc, ◌+◌, ◌<◌, ◌≤◌, ◌==◌, List, [], ◌∷◌, ◌++◌, None, Some, length, drop, refl, sym, ap, ◌∙◌, append_assoc, arith, length-append}
use Rattle.std.specs.List.{join_with_byte}
use Rattle.std.proofs.Math.Seq.{drop-append-add}
use Rattle.std.proofs.lemmas.List.{nil_from_length}
use Rattle.std.proofs.lemmas.List.Splits.{join_with_byte-slice_split, length-slice_split}
use Rattle.ffm_model.specs.Counts.{ActorCounts}
use Rattle.ffm_model.specs.declared.machine.Entry.{Entry}
use Rattle.ffm_model.specs.declared.machine.Verdict.{Verdict}
use Rattle.ffm_model.specs.declared.constants.TheConstants.{MAX_ENTRIES}
use Rattle.ffm_model.specs.TraceText.{Word, line, verdict_text, EntryFits}
use Rattle.trace_print.specs.View.{parts}
use Rattle.trace_print.specs.Answers.{BeginsWithEntry}
use Rattle.trace_print.specs.Reading.{entry_of}
use Rattle.trace_print.specs.Lines.{verdict_of, IsWrong, unended, neither, one_too_many, past_end}
use Rattle.trace_print.proofs.Entries.{FewActors, no_entry}
use Rattle.trace_print.proofs.Printed.{text_of}
use Rattle.trace_print.proofs.Verdicts.{text_of_verdict, no_verdict}

pub wrong_unended : (counts : ActorCounts) (n : ℕ) (text first : List ℕ) → parts 10 text ≡ first ∷ [] → IsWrong counts n (parts 10 text) (n + 1)
wrong_unended counts n text first e = rw e (unended first)

after_line : (text first rest : List ℕ) → text ≡ first ++ 10 ∷ rest → drop (length first + 1) text ≡ rest
after_line text first rest e = ap (drop (length first + 1)) e ∙ drop-append-add first (10 ∷ rest) 1

pub begins_with_entry : (counts : ActorCounts) (n : ℕ) (text first rest : List ℕ) (e : Entry) → text ≡ first ++ 10 ∷ rest → entry_of counts first ≡ Some e → EntryFits counts e → n < MAX_ENTRIES → BeginsWithEntry counts n text e (length first + 1)
begins_with_entry counts n text first rest e joined read fits room =
    let same = text_of counts first e read in
    let long : length text ≡ length first + suc (length rest) = ap length joined ∙ length-append first (10 ∷ rest) in
    let apart : line first ++ rest ≡ first ++ 10 ∷ rest = append_assoc first (10 ∷ []) rest in
    record {
      line = rw (after_line text first rest joined, ← same) (joined ∙ sym apart);
      some = omega arith;
      within = omega (arith, long);
      fits = fits;
      room = room;
    }

pub wrong_room : (counts : ActorCounts) (n : ℕ) (text first : List ℕ) (others : List Word) (e : Entry) → parts 10 text ≡ first ∷ others → entry_of counts first ≡ Some e → EntryFits counts e → MAX_ENTRIES ≤ n → IsWrong counts n (parts 10 text) (n + 1)
wrong_room counts n text first others e cut read fits full = rw cut (one_too_many first others (e, fits, text_of counts first e read) full)

pub ends_with_verdict : (n : ℕ) (text first rest : List ℕ) (v : Verdict) → text ≡ first ++ 10 ∷ rest → verdict_of n first ≡ Some v → length rest ≡ 0 → text ≡ line (verdict_text v n)
ends_with_verdict n text first rest v joined read none = joined ∙ (ap (λ (r : List ℕ). first ++ 10 ∷ r) (nil_from_length rest none) ∙ ap line (text_of_verdict n first v read))

no_parts : (text : List ℕ) → parts 10 text ≡ [] ∷ [] → text ≡ []
no_parts text e = sym (join_with_byte-slice_split 10 text) ∙ ap (join_with_byte 10) e

-- the parts are never none
past : (counts : ActorCounts) (n : ℕ) (first : Word) (v : Verdict) (others : List Word) → (others ≡ [] → ⊥) → (others ≡ [] ∷ [] → ⊥) → first ≡ verdict_text v n → IsWrong counts n (first ∷ others) (n + 2)
past counts n first v [] some more same = absurd (some refl)
past counts n first v (next ∷ others) some more same = past_end first next others (v, same) more

some_parts : (text : List ℕ) → parts 10 text ≡ [] → ⊥
some_parts text e = absurd (omega (arith, ap length e, length-slice_split {X = ℕ} (λ b. b == 10) text))

pub wrong_past : (counts : ActorCounts) (n : ℕ) (text first rest : List ℕ) (v : Verdict) → parts 10 text ≡ first ∷ parts 10 rest → verdict_of n first ≡ Some v → 0 < length rest → IsWrong counts n (parts 10 text) (n + 2)
wrong_past counts n text first rest v cut read some = rw cut (past counts n first v (parts 10 rest) (some_parts rest) (λ e. absurd (omega (arith, some, ap length (no_parts rest e)))) (text_of_verdict n first v read))

pub wrong_neither : (counts : ActorCounts) (n : ℕ) (text first : List ℕ) (others : List Word) → FewActors counts → parts 10 text ≡ first ∷ others → entry_of counts first ≡ None → verdict_of n first ≡ None → IsWrong counts n (parts 10 text) (n + 1)
wrong_neither counts n text first others few cut unread unjudged = rw cut (neither first others (no_entry counts first few unread) (no_verdict n first unjudged))
