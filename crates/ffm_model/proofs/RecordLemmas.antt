-- What one entry more changes of an actor's record.
use Rattle.std.proofs.Common.{ℕ, ◌≡◌, ◌≢◌, ◌==◌, Bool, true, false, List, [], ◌∷◌, ◌++◌, refl, ap, ◌∙◌, eq-eqb, ne_eqb, append-nil}
use Rattle.std.specs.Prelude.{if◌then◌else◌}
use Rattle.std.proofs.lemmas.List.{map-append}
use Rattle.std.proofs.lemmas.List.Elements.{filter-append}
use Rattle.ffm_model.specs.declared.machine.Entry.{Entry}
use Rattle.ffm_model.specs.declared.machine.Outcome.{Outcome}
use Rattle.ffm_model.specs.Plans.{Engine, engine_after, engine_answered}
use Rattle.ffm_model.specs.Records.{entries_of, outcomes_of, ends_blocked, is_blocked_outcome}

-- an entry of this actor, or of another, by the test
pub entries_of-own : (a : ℕ) (es : List Entry) (e : Entry) → (e.actor.0 == a) ≡ true → entries_of a (es ++ e ∷ []) ≡ entries_of a es ++ e ∷ []
entries_of-own a es e h = filter-append (λ d. d.actor.0 == a) es (e ∷ []) ∙ ap (λ (b : Bool). entries_of a es ++ (if b then e ∷ [] else [])) h

pub entries_of-other : (a : ℕ) (es : List Entry) (e : Entry) → (e.actor.0 == a) ≡ false → entries_of a (es ++ e ∷ []) ≡ entries_of a es
entries_of-other a es e h = filter-append (λ d. d.actor.0 == a) es (e ∷ []) ∙ ap (λ (b : Bool). entries_of a es ++ (if b then e ∷ [] else [])) h ∙ append-nil (entries_of a es)

-- and by the numbers
pub entries_of-same : (a : ℕ) (es : List Entry) (e : Entry) → e.actor.0 ≡ a → entries_of a (es ++ e ∷ []) ≡ entries_of a es ++ e ∷ []
entries_of-same a es e is = entries_of-own a es e (eq-eqb e.actor.0 a is)

pub entries_of-apart : (a : ℕ) (es : List Entry) (e : Entry) → e.actor.0 ≢ a → entries_of a (es ++ e ∷ []) ≡ entries_of a es
entries_of-apart a es e apart = entries_of-other a es e (ne_eqb e.actor.0 a apart)

pub outcomes_of-push : (es : List Entry) (e : Entry) → outcomes_of (es ++ e ∷ []) ≡ outcomes_of es ++ e.outcome ∷ []
outcomes_of-push es e = map-append (λ (x : Entry). x.outcome) es (e ∷ [])

pub ends_blocked-nil : ends_blocked [] ≡ false
unfolding ends_blocked
ends_blocked-nil = refl

pub ends_blocked-push : (os : List Outcome) (o : Outcome) → ends_blocked (os ++ o ∷ []) ≡ is_blocked_outcome o
unfolding ends_blocked
ends_blocked-push [] o = refl
ends_blocked-push (p ∷ []) o = refl
ends_blocked-push (p ∷ q ∷ os) o = ends_blocked-push (q ∷ os) o

pub engine_after-push : {X : Type 0} (m : Engine X) (x : X) (os : List Outcome) (o : Outcome) → engine_after m x (os ++ o ∷ []) ≡ engine_answered m o (engine_after m x os)
unfolding engine_after
engine_after-push m x [] o = refl
engine_after-push m x (p ∷ os) o = engine_after-push m (engine_answered m p x) os o
