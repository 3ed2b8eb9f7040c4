-- The actors of a run are actors of its system.
use Rattle.std.proofs.Common.{ℕ, zero, suc, ◌≡◌, ◌<◌, ◌&&◌, Bool, true, false, List, [], ◌∷◌, refl, ap, arith, subst, ◌∙◌}
use Rattle.std.specs.Prelude.{Option, Some, None, IsSome, nat_lt, fold, slice_get, if◌then◌else◌}
use Rattle.std.proofs.lemmas.Bool.Decides.{nat_tests}
use Rattle.ffm_model.specs.declared.system.Source.{Source}
use Rattle.ffm_model.specs.declared.system.System.{System}
use Rattle.ffm_model.specs.declared.machine.Entry.{Entry}
use Rattle.ffm_model.specs.Actors.{actor_count, counts_of, device_count, has_device}
use Rattle.ffm_model.specs.Calls.{effect_of}
use Rattle.ffm_model.specs.Memory.{ByteMap}
use Rattle.ffm_model.specs.Signals.{enabled}
use Rattle.ffm_model.specs.State.{State, opening, phase_of}
use Rattle.ffm_model.specs.Step.{step, step_on, Run, handle_shown, handle_allowed, outcome_eq, returns_when_due}
use Rattle.ffm_model.specs.TraceText.{IsActorOf}

-- where no entry is a step any more, none is
pub none-stays : (s : System) (es : List Entry) → fold (step_on s) None es ≡ None
none-stays s [] = refl
none-stays s (e ∷ es) = none-stays s es

first_test : {X : Type 0} (a b c d : Bool) (x : X) → IsSome (if (a && b) && c && d then Some x else None) → a ≡ true
first_test true b c d x h = refl
first_test false b c d x h = h

step-actor : (s : System) (st : State) (e : Entry) → IsSome (step s st e) → nat_lt e.actor.0 (actor_count s) ≡ true
unfolding step
step-actor s st e h =
    let due = effect_of s st e.actor.0 e.call (handle_shown e.outcome) in
    first_test (nat_lt e.actor.0 (actor_count s)) (enabled s st.spm e.actor.0 && returns_when_due e.call (phase_of st.spm e.actor.0))
    (handle_allowed s st e.actor.0 e.call (handle_shown e.outcome)) (outcome_eq due.outcome e.outcome) due.state h

pub some-is : {X : Type 0} (o : Option X) → (o ≡ None → ⊥) → IsSome o
some-is (Some x) h = refl
some-is None h = absurd (h refl)

-- a step that a run goes on from is one
step-on : (s : System) (st : Option State) (e : Entry) (es : List Entry) → IsSome (fold (step_on s) (step_on s st e) es) → nat_lt e.actor.0 (actor_count s) ≡ true
step-on s None e es h = absurd (let n : fold (step_on s) None es ≡ None = none-stays s es in cc)
step-on s (Some x) e es h =
    step-actor s x e (some-is (step s x e) (λ q. let n : fold (step_on s) (step s x e) es ≡ None = ap (λ o. fold (step_on s) o es) q ∙ none-stays s es in cc))

actor-from : (s : System) (st : Option State) (es : List Entry) (i : ℕ) (e : Entry) → IsSome (fold (step_on s) st es) → slice_get es i ≡ Some e → nat_lt e.actor.0 (actor_count s) ≡ true
actor-from s st [] i e h at = cc
actor-from s st (x ∷ xs) zero e h at =
    let same : Some x ≡ Some e = at in
    let e_is : x ≡ e = cc in
    subst (λ (y : Entry). nat_lt y.actor.0 (actor_count s) ≡ true) e_is (step-on s st x xs h)
actor-from s st (x ∷ xs) (suc i) e h at = actor-from s (step_on s st x) xs i e h at

-- whether a system has a device, as a number
pub device-test : (xs : List Source) → device_count xs ≡ (if has_device xs then 1 else 0)
device-test [] = refl
device-test (x ∷ xs) = refl

-- the entry at a place of a run is an actor's of its system
pub run_actor : (s : System) (m : ByteMap) (es : List Entry) (i : ℕ) (e : Entry) → Run s m es → slice_get es i ≡ Some e → IsActorOf (counts_of s) e.actor.0
run_actor s m es i e h at =
    let test : nat_lt e.actor.0 (actor_count s) ≡ true = actor-from s (Some (opening s m)) es i e h at in
    let below : e.actor.0 < actor_count s = grind (arith, nat_tests) in
    omega (arith, below, device-test s.sources)
