-- The rule by which an entry is illegal.
use Rattle.std.proofs.Common.{ℕ, ◌≡◌, ◌<◌, ◌≤◌, inl, inr, Bool, true, false, ap, sym, subst, arith, ◌∙◌}
use Rattle.std.specs.Prelude.{Some, None, IsSome, is_some, nat_lt, ◌&&◌, if◌then◌else◌}
use Rattle.std.proofs.lemmas.Bool.{and_from, and_left, and_parts, and_right, false_from_ne_true}
use Rattle.std.proofs.lemmas.Bool.Decides.{nat_tests}
use Rattle.ffm_model.specs.declared.system.System.{System}
use Rattle.ffm_model.specs.declared.machine.Entry.{Entry}
use Rattle.ffm_model.specs.declared.machine.Outcome.{Outcome}
use Rattle.ffm_model.specs.Actors.{actor_count}
use Rattle.ffm_model.specs.Signals.{enabled, may_resume}
use Rattle.ffm_model.specs.State.{State, phase_of}
use Rattle.ffm_model.specs.Step.{step, may_call, handle_shown, outcome_eq, returns_when_due}
use Rattle.ffm_model.proofs.StepLemmas.{outcome_eq-self}
use Rattle.machine_check.specs.Performed.{gave_handle}
use Rattle.machine_check.specs.Reaching.{IsDue}
use Rattle.machine_check.proofs.Steps.{none_by_call}
use Rattle.view_places.specs.Why.{IsIllegal, IsOther, IsRule, IsStepWith, gives, with_handle}
use Rattle.view_places.specs.declared.reasons.Rule.TheVariants as rule
use Rattle.view_places.proofs.Answers.{gives_by, no_handle, same_outcome, the_answer}

-- ---- a call that may not be made

there : (s : System) (e : Entry) → e.actor.0 < actor_count s → nat_lt e.actor.0 (actor_count s) ≡ true
there s e h = grind (arith, nat_tests)

absent : (s : System) (e : Entry) → actor_count s ≤ e.actor.0 → nat_lt e.actor.0 (actor_count s) ≡ false
absent s e h = grind (arith, nat_tests)

pub no_such_actor : (s : System) (limit n : ℕ) (st : State) (e : Entry) → n < limit → actor_count s ≤ e.actor.0 → IsRule s limit n st e rule.NoSuchActor
no_such_actor s limit n st e below h = (below, (none_by_call s st e (and_left _ _ (absent s e h)), h))

pub not_enabled : (s : System) (limit n : ℕ) (st : State) (e : Entry) → n < limit → e.actor.0 < actor_count s → enabled s st.spm e.actor.0 ≡ false → IsRule s limit n st e rule.NotEnabled
not_enabled s limit n st e below is h = (below, (none_by_call s st e (and_right _ _ (and_left _ _ h)), (is, h)))

pub return_due : (s : System) (limit n : ℕ) (st : State) (e : Entry) → n < limit → e.actor.0 < actor_count s → enabled s st.spm e.actor.0 ≡ true
    → returns_when_due e.call (phase_of st.spm e.actor.0) ≡ false → may_resume (phase_of st.spm e.actor.0) ≡ true → IsRule s limit n st e rule.ReturnDue
return_due s limit n st e below is on h may = (below, (none_by_call s st e (and_right _ _ (and_right _ _ h)), ((is, on), (h, may))))

pub no_return_due : (s : System) (limit n : ℕ) (st : State) (e : Entry) → n < limit → e.actor.0 < actor_count s → enabled s st.spm e.actor.0 ≡ true
    → returns_when_due e.call (phase_of st.spm e.actor.0) ≡ false → may_resume (phase_of st.spm e.actor.0) ≡ false → IsRule s limit n st e rule.NoReturnDue
no_return_due s limit n st e below is on h may = (below, (none_by_call s st e (and_right _ _ (and_right _ _ h)), ((is, on), (h, may))))

pub may_be_made : (s : System) (st : State) (e : Entry) → e.actor.0 < actor_count s → enabled s st.spm e.actor.0 ≡ true → returns_when_due e.call (phase_of st.spm e.actor.0) ≡ true → may_call s st.spm e.actor.0 e.call ≡ true
may_be_made s st e is on h = and_from _ _ (there s e is) (and_from _ _ on h)

-- ---- a call that may be made

no_step : (s : System) (limit n : ℕ) (st : State) (e : Entry) → n < limit → IsIllegal s limit n st e → step s st e ≡ None
no_step s limit n st e below (inl full) = absurd (omega (arith, below, full))
no_step s limit n st e below (inr none) = none

pub no_handle_left : (s : System) (limit n : ℕ) (st : State) (e : Entry) → n < limit → may_call s st.spm e.actor.0 e.call ≡ true → IsIllegal s limit n st e → IsDue s st e.actor.0 e.call None → IsRule s limit n st e rule.NoHandleLeft
no_handle_left s limit n st e below may illegal due = (below, (no_step s limit n st e below illegal, no_handle s st e may due))

some_or_none : (s : System) (st : State) (e : Entry) (o : Outcome) → step s st e ≡ None → e.outcome ≡ o → IsStepWith s st e o → ⊥
some_or_none s st e o none same some =
    let whole : IsSome (step s st e) = subst (λ (x : Outcome). IsStepWith s st e x) (sym same) some in
    let test : is_some (step s st e) ≡ false = ap is_some none in
    absurd cc

pub stale_handle : (s : System) (limit n : ℕ) (st : State) (e : Entry) (o : Outcome) → n < limit → may_call s st.spm e.actor.0 e.call ≡ true → IsIllegal s limit n st e → IsDue s st e.actor.0 e.call (Some o)
    → (gave_handle (phase_of st.spm e.actor.0) e.call o && outcome_eq (with_handle (handle_shown e.outcome) o) e.outcome) ≡ true → IsRule s limit n st e (rule.StaleHandle o)
stale_handle s limit n st e o below may illegal due test =
    let none = no_step s limit n st e below illegal in
    let answer = the_answer s st e o due in
    let tests = and_parts (gave_handle (phase_of st.spm e.actor.0) e.call o) (outcome_eq (with_handle (handle_shown e.outcome) o) e.outcome) test in
    let giving : gives s st e ≡ true = gives_by s st e o due ∙ tests.0 in
    let like : e.outcome ≡ with_handle (handle_shown e.outcome) o = sym (same_outcome _ _ tests.1) in (
      below,
      (
        none,
        record {
          may = may;
          is_answer = answer;
          giving = giving;
          like = like;
          stale = false_from_ne_true _ (λ new. some_or_none s st e (with_handle (handle_shown e.outcome) o) none like (answer.any_fresh giving (handle_shown e.outcome) new));
        },
      ),
    )

-- an outcome unlike the answer, whether the call gives a handle or not
unlike : (s : System) (st : State) (e : Entry) (o : Outcome) (g : Bool) → step s st e ≡ None → IsStepWith s st e o → (g && outcome_eq (with_handle (handle_shown e.outcome) o) e.outcome) ≡ false
    → e.outcome ≡ (if g then with_handle (handle_shown e.outcome) o else o) → ⊥
unlike s st e o true none due test same = let equal : outcome_eq (with_handle (handle_shown e.outcome) o) e.outcome ≡ true = ap (λ x. outcome_eq x e.outcome) (sym same) ∙ outcome_eq-self e.outcome in absurd cc
unlike s st e o false none due test same = some_or_none s st e o none same due

is_other : (s : System) (st : State) (e : Entry) (o : Outcome) → step s st e ≡ None → may_call s st.spm e.actor.0 e.call ≡ true → IsDue s st e.actor.0 e.call (Some o)
    → (gave_handle (phase_of st.spm e.actor.0) e.call o && outcome_eq (with_handle (handle_shown e.outcome) o) e.outcome) ≡ false → IsOther s st e o
is_other s st e o none may due test = record {
  may = may;
  is_answer = the_answer s st e o due;
  unlike = unlike s st e o (gives s st e) none due (ap (λ g. g && outcome_eq (with_handle (handle_shown e.outcome) o) e.outcome) (gives_by s st e o due) ∙ test);
}

pub other_handle : (s : System) (limit n : ℕ) (st : State) (e : Entry) (o : Outcome) → n < limit → may_call s st.spm e.actor.0 e.call ≡ true → IsIllegal s limit n st e → IsDue s st e.actor.0 e.call (Some o)
    → (gave_handle (phase_of st.spm e.actor.0) e.call o && outcome_eq (with_handle (handle_shown e.outcome) o) e.outcome) ≡ false → gave_handle (phase_of st.spm e.actor.0) e.call o ≡ true → IsRule s limit n st e (rule.OtherHandle o)
other_handle s limit n st e o below may illegal due test gave =
    let none = no_step s limit n st e below illegal in
    (below, (none, (is_other s st e o none may due test, gives_by s st e o due ∙ gave)))

pub other_answer : (s : System) (limit n : ℕ) (st : State) (e : Entry) (o : Outcome) → n < limit → may_call s st.spm e.actor.0 e.call ≡ true → IsIllegal s limit n st e → IsDue s st e.actor.0 e.call (Some o)
    → (gave_handle (phase_of st.spm e.actor.0) e.call o && outcome_eq (with_handle (handle_shown e.outcome) o) e.outcome) ≡ false → gave_handle (phase_of st.spm e.actor.0) e.call o ≡ false → IsRule s limit n st e (rule.OtherAnswer o)
other_answer s limit n st e o below may illegal due test gave =
    let none = no_step s limit n st e below illegal in
    (below, (none, (is_other s st e o none may due test, gives_by s st e o due ∙ gave)))
