-- A verdict that was printed is read again, and its text is no entry's.
use Rattle.std.proofs.Common.{◌≡◌, ℕ, ◌+◌, ◌-◌, true, nat_lt, List, ◌++◌, None, Some, refl, sym, ap, ◌∙◌}
use Rattle.std.specs.Prelude.{codes, decimal}
use Rattle.std.specs.Str.{bytes_eq}
use Rattle.std.proofs.lemmas.Slice.Eq.{bytes_eq-Decides}
use Rattle.ffm_model.specs.Counts.{ActorCounts}
use Rattle.ffm_model.specs.declared.machine.Entry.{Entry}
use Rattle.ffm_model.specs.declared.machine.Verdict.{Verdict}
use Rattle.ffm_model.specs.declared.machine.Verdict.TheVariants.{Quiet, Stalled, Full}
use Rattle.ffm_model.specs.TraceText.{actor_word, spaced_phrase, call_phrase, outcome_phrase, entry_text, verdict_text}
use Rattle.trace_print.proofs.Options.{chosen, Gives, done, either, when, given_is}
use Rattle.trace_print.specs.Lines.{verdict_of, IsEntryText, IsVerdictText}
use Rattle.ffm_model.proofs.StepLemmas.{bytes_eq-self}

verdict_again : (n : ℕ) (v : Verdict) → verdict_of n (verdict_text v n) ≡ Some v
unfolding verdict_of verdict_text
verdict_again n Quiet = rw (bytes_eq-self (verdict_text Quiet n)) refl
verdict_again n v = rw (bytes_eq-self (verdict_text v n)) refl

no_verdict_of : (n a : ℕ) (counts : ActorCounts) (rest : List ℕ) → verdict_of n (actor_word counts a ++ rest) ≡ None
unfolding verdict_of verdict_text actor_word
no_verdict_of n a counts rest =
    let P : List ℕ → Type 0 = λ w. verdict_of n (w ++ rest) ≡ None in
    let client : List ℕ = codes "n" ++ decimal (a - counts.partitions + 1) in
    chosen P (nat_lt a counts.partitions) (codes "p" ++ decimal (a + 1)) _ (λ _. refl) (λ _. chosen P (nat_lt a (counts.partitions + counts.clients)) client (codes "dev") (λ _. refl) (λ _. refl))

entry_is_no_verdict : (n : ℕ) (counts : ActorCounts) (e : Entry) → verdict_of n (entry_text counts e) ≡ None
unfolding entry_text
entry_is_no_verdict n counts e = no_verdict_of n e.actor.0 counts (spaced_phrase (call_phrase e.call) ++ (codes " ->" ++ spaced_phrase (outcome_phrase e.outcome)))

-- where nothing is read, it is no verdict's text
pub no_verdict : (n : ℕ) (text : List ℕ) → verdict_of n text ≡ None → IsVerdictText n text → ⊥
no_verdict n text none (v, same) = let some = ap (verdict_of n) same ∙ verdict_again n v in absurd cc

-- no text is an entry's and a verdict's
pub not_both : (counts : ActorCounts) (n : ℕ) (text : List ℕ) → IsEntryText counts text → IsVerdictText n text → ⊥
not_both counts n text (e, fits, same) is_verdict = no_verdict n text (ap (verdict_of n) same ∙ entry_is_no_verdict n counts e) is_verdict

-- different verdicts have different texts
pub same_verdict : (n : ℕ) (v w : Verdict) → verdict_text v n ≡ verdict_text w n → v ≡ w
same_verdict n v w e = let read : Some v ≡ Some w = sym (verdict_again n v) ∙ (ap (verdict_of n) e ∙ verdict_again n w) in cc

-- what is read is printed so
verdict_printed : (n : ℕ) (text : List ℕ) → Gives (verdict_of n text) (λ v. text ≡ verdict_text v n)
unfolding verdict_of
verdict_printed n text =
    let same : (v : Verdict) → bytes_eq (verdict_text v n) text ≡ true → Gives (Some v) (λ v. text ≡ verdict_text v n) = λ v t. done v _ (sym ((bytes_eq-Decides (verdict_text v n) text).0 t)) in
    either _ (Some Quiet) _ _ (same Quiet) (either _ (Some Stalled) _ _ (same Stalled) (when _ (Some Full) _ (same Full)))

pub text_of_verdict : (n : ℕ) (text : List ℕ) (v : Verdict) → verdict_of n text ≡ Some v → text ≡ verdict_text v n
text_of_verdict n text v e = given_is _ _ v (verdict_printed n text) e
