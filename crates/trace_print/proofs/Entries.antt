-- An entry that was printed is read again.
use Rattle.std.proofs.Common.{◌≡◌, ℕ, ◌+◌, ◌-◌, ◌<◌, ◌≤◌, Bool, true, false, cond, nat_lt, List, [], ◌∷◌, ◌++◌, None, Some, refl, sym, ap, ◌∙◌, arith, inl, inr, lit<}
use Rattle.std.specs.Prelude.{codes, decimal, nat_le}
use Rattle.std.specs.List.{flat_map, list_all}
use Rattle.std.proofs.lemmas.List.Concat.{flat_map-append}
use Rattle.std.proofs.lemmas.List.{append-nil}
use Rattle.std.proofs.lemmas.Bool.{lt-ltb, le-ltb, cases_lt}
use Rattle.std.proofs.lemmas.Bool.Decides.{nat_tests}
use Rattle.ffm_model.specs.Counts.{ActorCounts}
use Rattle.ffm_model.specs.declared.machine.Call.{Call}
use Rattle.ffm_model.specs.declared.machine.Call.TheVariants as call
use Rattle.ffm_model.specs.declared.machine.Entry.{Entry}
use Rattle.ffm_model.specs.declared.machine.Outcome.{Outcome}
use Rattle.ffm_model.specs.declared.machine.Outcome.TheVariants as outcome
use Rattle.ffm_model.specs.TraceText.{Word, call_phrase, outcome_phrase, message_phrase, actor_word, entry_text, EntryFits, IsActorOf, spaced}
use Rattle.trace_print.specs.View.{parts}
use Rattle.trace_print.specs.Lines.{IsEntryText}
use Rattle.trace_print.specs.Reading.{outcome_at, place_of, actor_of, entry_at, entry_of}
use Rattle.trace_print.proofs.Options.{chosen}
use Rattle.trace_print.proofs.Numbers.{unsigned_again}
use Rattle.trace_print.proofs.Again.{phrase_words, call_again, outcome_again}
use Rattle.trace_print.proofs.Plain.{IsText, text_from_plain, text_spaced, IsPlain, AllPlain, plain_test, plain_from_test, plain_decimal, plain_phrase, split_words, spaced_phrase_is}
use Rattle.law_lists.proofs.Lists.{AllByRecursion-append}

call_names : (c : Call) → list_all plain_test (call_phrase c).names ≡ true
call_names (call.Stop false) = refl
call_names (call.Stop true) = refl
call_names _ = refl

outcome_names : (o : Outcome) → list_all plain_test (outcome_phrase o).names ≡ true
unfolding message_phrase
outcome_names (outcome.Value z) = refl
outcome_names _ = refl

unfoldable pub entry_words : ActorCounts → Entry → List Word
entry_words counts e = phrase_words (call_phrase e.call) ++ (codes "->" ∷ phrase_words (outcome_phrase e.outcome))

text_is : (counts : ActorCounts) (e : Entry) → entry_text counts e ≡ actor_word counts e.actor.0 ++ flat_map spaced (entry_words counts e)
unfolding entry_text entry_words
text_is counts e =
    rw (spaced_phrase_is (call_phrase e.call), spaced_phrase_is (outcome_phrase e.outcome), flat_map-append spaced (phrase_words (call_phrase e.call)) (codes "->" ∷ phrase_words (outcome_phrase e.outcome))) refl

plain_words : (counts : ActorCounts) (e : Entry) → AllPlain (entry_words counts e)
unfolding entry_words
plain_words counts e =
    AllByRecursion-append IsPlain (phrase_words (call_phrase e.call)) (codes "->" ∷ phrase_words (outcome_phrase e.outcome)) (plain_phrase (call_phrase e.call) (call_names e.call))
    (plain_from_test (codes "->") refl, plain_phrase (outcome_phrase e.outcome) (outcome_names e.outcome))

plain_actor : (counts : ActorCounts) (a : ℕ) → IsPlain (actor_word counts a)
unfolding actor_word
plain_actor counts a =
    chosen IsPlain (nat_lt a counts.partitions) _ _ (λ _. (lit< tt, plain_decimal (a + 1))) (λ _.
    chosen IsPlain (nat_lt a (counts.partitions + counts.clients)) _ _ (λ _. (lit< tt, plain_decimal (a - counts.partitions + 1))) (λ _. plain_from_test (codes "dev") refl))

pub split_again : (counts : ActorCounts) (e : Entry) → parts 32 (entry_text counts e) ≡ actor_word counts e.actor.0 ∷ entry_words counts e
split_again counts e = rw text_is (split_words (actor_word counts e.actor.0) (entry_words counts e) (plain_actor counts e.actor.0) (plain_words counts e))

place_again : (count k : ℕ) → k < count → count ≤ 32 → place_of count (decimal (k + 1)) ≡ Some k
place_again count k lt few =
    let same : k + 1 - 1 ≡ k = omega arith in
    let low : nat_le 1 (k + 1) ≡ true = grind (arith, nat_tests) in
    let high : nat_le (k + 1) count ≡ true = grind (arith, nat_tests) in
    rw (unsigned_again (k + 1) (omega arith), low, high, same) refl

-- how many actors of each kind there may be
abbrev pub FewActors : ActorCounts → Type 0
FewActors counts = (counts.partitions ≤ 32) × (counts.clients ≤ 16)

last_actor : (n a : ℕ) (device : Bool) → a < n + cond device 1 0 → n ≤ a → (n ≡ a) × (device ≡ true)
last_actor n a true lt le = (omega arith, refl)
last_actor n a false lt le = absurd (omega arith)

actor_again : (counts : ActorCounts) (a : ℕ) → FewActors counts → IsActorOf counts a → actor_of counts (actor_word counts a) ≡ Some a
unfolding actor_word actor_of
actor_again counts a few named =
    elim (cases_lt a counts.partitions) [
      | inl lt ↦ rw (lt-ltb a counts.partitions lt, place_again counts.partitions a lt few.0) refl
      | inr le ↦ elim (cases_lt a (counts.partitions + counts.clients)) [
        | inl lt ↦
            let e : counts.partitions + (a - counts.partitions) ≡ a = omega arith in
            rw (le-ltb a counts.partitions le, lt-ltb a (counts.partitions + counts.clients) lt, place_again counts.clients (a - counts.partitions) (omega arith) (omega arith)) (ap Some e)
        | inr past ↦
            let last = last_actor (counts.partitions + counts.clients) a counts.device named past in
            rw (le-ltb a counts.partitions le, le-ltb a (counts.partitions + counts.clients) past, last.1) (ap Some last.0)
      ]
    ]

read_words : (counts : ActorCounts) (e : Entry) → FewActors counts → EntryFits counts e → entry_at counts (actor_word counts e.actor.0 ∷ entry_words counts e) ≡ Some e
unfolding entry_at entry_words
read_words counts e few fits =
    let ended : outcome_at (phrase_words (outcome_phrase e.outcome)) ≡ Some (e.outcome, []) = rw append-nil at (outcome_again e.outcome [] fits.outcome) in
    rw (actor_again counts e.actor.0 few fits.actor, call_again e.call (codes "->" ∷ phrase_words (outcome_phrase e.outcome)) fits.call, ended) refl

pub entry_again : (counts : ActorCounts) (e : Entry) → FewActors counts → EntryFits counts e → entry_of counts (entry_text counts e) ≡ Some e
unfolding entry_of
entry_again counts e few fits = rw (split_again counts e) (read_words counts e few fits)

-- where nothing is read, it is no entry's text
pub no_entry : (counts : ActorCounts) (text : List ℕ) → FewActors counts → entry_of counts text ≡ None → IsEntryText counts text → ⊥
no_entry counts text few none (e, fits, same) = let some = ap (entry_of counts) same ∙ entry_again counts e few fits in absurd cc

-- different entries have different texts
pub same_entry : (counts : ActorCounts) (d e : Entry) → FewActors counts → EntryFits counts d → EntryFits counts e → entry_text counts d ≡ entry_text counts e → d ≡ e
same_entry counts d e few p q same = let read : Some d ≡ Some e = sym (entry_again counts d few p) ∙ (ap (entry_of counts) same ∙ entry_again counts e few q) in cc

-- an entry's text holds no line feed
pub text_of_entry : (counts : ActorCounts) (e : Entry) → IsText (entry_text counts e)
text_of_entry counts e =
    rw text_is (AllByRecursion-append (λ b. 31 < b) (actor_word counts e.actor.0) _ (text_from_plain (actor_word counts e.actor.0) (plain_actor counts e.actor.0)) (text_spaced (entry_words counts e) (plain_words counts e)))
