-- What is a step of the machine, and what is none, by what its call makes of the checker's state.
use Rattle.std.proofs.Common.{ℤ, ◌≡◌, Bool, true, false, List, [], ◌∷◌, ◌++◌, refl, ap, sym, ◌∙◌}
use Rattle.std.specs.Prelude.{Some, None, Result, Ok, Err, IfOk, ◌&&◌, ◌||◌, not, if◌then◌else◌, pos, int_le}
use Rattle.std.specs.List.{list_any}
use Rattle.std.specs.BTreeSet.{BTreeSet, contains}
use Rattle.std.specs.Ordering.{int_cmp, int_eq}
use Rattle.std.proofs.lemmas.List.Folds.{list_any-append}
use Rattle.ffm_model.specs.declared.system.System.{System}
use Rattle.ffm_model.specs.declared.machine.Entry.{Entry}
use Rattle.ffm_model.specs.declared.machine.Handle.{Handle}
use Rattle.ffm_model.specs.declared.machine.Memory.{Memory}
use Rattle.ffm_model.specs.declared.machine.Outcome.{Outcome}
use Rattle.ffm_model.specs.State.{State, fresh, handle_eq}
use Rattle.ffm_model.specs.ClientCalls.{Effect, effect}
use Rattle.ffm_model.specs.Calls.{effect_of}
use Rattle.ffm_model.specs.Step.{step, may_call, handle_allowed, handle_shown, outcome_eq}
use Rattle.machine_calls.specs.declared.machine.Machine.{Machine}
use Rattle.machine_calls.specs.Machine.{spm_of_objects, state_of}
use Rattle.machine_check.specs.Performed.{gave_handle, given_after, is_left, phase_in, Knows, Performs, Steps}
use Rattle.machine_check.proofs.Allowed.{allowed_gave}

-- ---- the three tests of a step

no_call : (a b c : Bool) (st : State) → a ≡ false → (if a && b && c then Some st else None) ≡ None
no_call a b c st h = rw h refl

no_handle : (a b c : Bool) (st : State) → b ≡ false → (if a && b && c then Some st else None) ≡ None
no_handle true b c st h = rw h refl
no_handle false b c st h = refl

no_outcome : (a b c : Bool) (st : State) → c ≡ false → (if a && b && c then Some st else None) ≡ None
no_outcome true true c st h = rw h refl
no_outcome true false c st h = refl
no_outcome false b c st h = refl

all_hold : (a b c : Bool) (st : State) → a ≡ true → b ≡ true → c ≡ true → (if a && b && c then Some st else None) ≡ Some st
all_hold a b c st h k q = rw (h, k, q) refl

pub none_by_call : (s : System) (st : State) (e : Entry) → may_call s st.spm e.actor.0 e.call ≡ false → step s st e ≡ None
unfolding step
none_by_call s st e h = no_call _ _ _ _ h

pub none_by_handle : (s : System) (st : State) (e : Entry) → handle_allowed s st e.actor.0 e.call (handle_shown e.outcome) ≡ false → step s st e ≡ None
unfolding step
none_by_handle s st e h = no_handle _ _ _ _ h

none_by_outcome : (s : System) (st : State) (e : Entry) → outcome_eq (effect_of s st e.actor.0 e.call (handle_shown e.outcome)).outcome e.outcome ≡ false → step s st e ≡ None
unfolding step
none_by_outcome s st e h =
    let k = handle_shown e.outcome in
    no_outcome (may_call s st.spm e.actor.0 e.call) (handle_allowed s st e.actor.0 e.call k) _ (effect_of s st e.actor.0 e.call k).state h

some_by : (s : System) (st : State) (e : Entry) → may_call s st.spm e.actor.0 e.call ≡ true → handle_allowed s st e.actor.0 e.call (handle_shown e.outcome) ≡ true
    → outcome_eq (effect_of s st e.actor.0 e.call (handle_shown e.outcome)).outcome e.outcome ≡ true → step s st e ≡ Some (effect_of s st e.actor.0 e.call (handle_shown e.outcome)).state
unfolding step
some_by s st e h k q = all_hold _ _ _ _ h k q

-- ---- by what the call makes of the checker's state

told : (x : Effect) (o due : Outcome) (new : State) (b : Bool) → x ≡ effect due new → outcome_eq due o ≡ b → outcome_eq x.outcome o ≡ b
told x o due new b is h = ap (λ y. outcome_eq y.outcome o) is ∙ h

-- another outcome is due
pub none_by_due : (s : System) (m n : Machine) (all : List Handle) (e : Entry) (due : Outcome) → Performs s e.actor.0 e.call (handle_shown e.outcome) m (Ok due) n
    → outcome_eq due e.outcome ≡ false → step s (state_of m all) e ≡ None
none_by_due s m n all e due is h = none_by_outcome s (state_of m all) e (told _ e.outcome due _ false (is all) h)

pub not_given : (b f : Bool) → b ≡ false → (not b || f) ≡ true
not_given b f h = rw h refl

given_one : (b f : Bool) → b ≡ true → (not b || f) ≡ f
given_one b f h = rw h refl

-- the call gave no handle
pub some_without : (s : System) (m n : Machine) (all : List Handle) (e : Entry) (due : Outcome) → may_call s (spm_of_objects m.objects) e.actor.0 e.call ≡ true
    → Performs s e.actor.0 e.call (handle_shown e.outcome) m (Ok due) n → outcome_eq due e.outcome ≡ true → gave_handle (phase_in m e.actor.0) e.call due ≡ false
    → step s (state_of m all) e ≡ Some (state_of n all)
some_without s m n all e due may is same gave =
    let h = handle_shown e.outcome in
    let st = state_of m all in
    let left : State = state_of n (given_after (gave_handle (phase_in m e.actor.0) e.call due) all h) in
    some_by s st e may (allowed_gave s st left e.actor.0 e.call h due (is all) ∙ not_given _ _ gave) (told _ e.outcome due left true (is all) same)
    ∙ ap (λ x. Some x.state) (is all)
    ∙ ap (λ b. Some (state_of n (given_after b all h))) gave

-- the call gave a fresh handle
some_with : (s : System) (m n : Machine) (all : List Handle) (e : Entry) (due : Outcome) → may_call s (spm_of_objects m.objects) e.actor.0 e.call ≡ true
    → Performs s e.actor.0 e.call (handle_shown e.outcome) m (Ok due) n → outcome_eq due e.outcome ≡ true → gave_handle (phase_in m e.actor.0) e.call due ≡ true
    → fresh (state_of m all) (handle_shown e.outcome) ≡ true → step s (state_of m all) e ≡ Some (state_of n (all ++ handle_shown e.outcome ∷ []))
some_with s m n all e due may is same gave new =
    let h = handle_shown e.outcome in
    let st = state_of m all in
    let left : State = state_of n (given_after (gave_handle (phase_in m e.actor.0) e.call due) all h) in
    some_by s st e may (allowed_gave s st left e.actor.0 e.call h due (is all) ∙ given_one _ _ gave ∙ new) (told _ e.outcome due left true (is all) same)
    ∙ ap (λ x. Some x.state) (is all)
    ∙ ap (λ b. Some (state_of n (given_after b all h))) gave

-- the call gave a handle that was given before, or that none can be
none_with : (s : System) (m n : Machine) (all : List Handle) (e : Entry) (due : Outcome)
    → Performs s e.actor.0 e.call (handle_shown e.outcome) m (Ok due) n → gave_handle (phase_in m e.actor.0) e.call due ≡ true
    → fresh (state_of m all) (handle_shown e.outcome) ≡ false → step s (state_of m all) e ≡ None
none_with s m n all e due is gave old =
    let h = handle_shown e.outcome in
    let st = state_of m all in
    none_by_handle s st e (allowed_gave s st (state_of n (given_after (gave_handle (phase_in m e.actor.0) e.call due) all h)) e.actor.0 e.call h due (is all) ∙ given_one _ _ gave ∙ old)

-- ---- the handles given

or_last : (a b : Bool) → (a || (b || false)) ≡ (b || a)
or_last true true = refl
or_last a b = refl

-- one handle more
knows_more : (set more : BTreeSet ℤ) (all : List Handle) (h : Handle) → Knows set all → ((k : ℤ) → contains int_cmp more k ≡ (int_eq k h.0 || contains int_cmp set k)) → Knows more (all ++ h ∷ [])
knows_more set more all h knows adds k =
    adds k.0 ∙ ap (λ b. int_eq k.0 h.0 || b) (knows k) ∙ sym (or_last (list_any (handle_eq k) all) (int_eq k.0 h.0)) ∙ sym (list_any-append (handle_eq k) all (h ∷ []))

-- a handle is left in the set that knows those given exactly where it is fresh
pub left_fresh : (st : State) (set : BTreeSet ℤ) (h : Handle) → Knows set st.handles_given → is_left set h ≡ fresh st h
left_fresh st set h knows = ap (λ b. int_le (pos 1) h.0 && int_le h.0 (pos 0x3fffffff) && not b) (knows h)

-- the entry of a call that gave a handle, by whether the handle is a fresh one
pub by_given : (s : System) (m n : Machine) (set more : BTreeSet ℤ) (all : List Handle) (e : Entry) (due : Outcome) (r : Result Bool Memory)
    → may_call s (spm_of_objects m.objects) e.actor.0 e.call ≡ true
    → Performs s e.actor.0 e.call (handle_shown e.outcome) m (Ok due) n → outcome_eq due e.outcome ≡ true → gave_handle (phase_in m e.actor.0) e.call due ≡ true
    → Knows set all
    → IfOk r (λ b. b ≡ is_left set (handle_shown e.outcome))
    → IfOk r (λ b. b ≡ true → (k : ℤ) → contains int_cmp more k ≡ (int_eq k (handle_shown e.outcome).0 || contains int_cmp set k))
    → Steps s m all e r n more
by_given s m n set more all e due (Ok true) may is same gave knows new adds =
    let h = handle_shown e.outcome in (
      all ++ h ∷ [],
      knows_more set more all h knows (adds refl),
      some_with s m n all e due may is same gave (sym (left_fresh (state_of m all) set h knows) ∙ sym new),
    )
by_given s m n set more all e due (Ok false) may is same gave knows new adds =
    let h = handle_shown e.outcome in
    none_with s m n all e due is gave (sym (left_fresh (state_of m all) set h knows) ∙ sym new)
by_given s m n set more all e due (Err x) may is same gave knows new adds = tt
