-- Which calls of a run give a message, and with which handle.
use Rattle.std.proofs.Common.{ℕ, ◌≡◌, Bool, true, false, not, ◌&&◌, List, [], ◌∷◌, refl, ap, sym, ◌∙◌}
use Rattle.std.specs.Prelude.{ℤ, pos, int_le, Option, Some, None, IsSome, fold, option_and_then, is_none, if◌then◌else◌}
use Rattle.std.specs.List.{list_any, AllByRecursion}
use Rattle.std.specs.Option.{option_map, option_map_or}
use Rattle.ffm_model.specs.declared.system.System.{System}
use Rattle.ffm_model.specs.declared.system.ActorKind.{ActorKind}
use Rattle.ffm_model.specs.declared.system.ActorKind.TheVariants.{Client}
use Rattle.ffm_model.specs.declared.machine.Call.{Call}
use Rattle.ffm_model.specs.declared.machine.Call.TheVariants as call
use Rattle.ffm_model.specs.declared.machine.Entry.{Entry}
use Rattle.ffm_model.specs.declared.machine.Handle.{Handle}
use Rattle.ffm_model.specs.declared.machine.Message.{Message}
use Rattle.ffm_model.specs.declared.machine.Outcome.{Outcome}
use Rattle.ffm_model.specs.declared.machine.Outcome.TheVariants as outcome
use Rattle.ffm_model.specs.Actors.{kind_of}
use Rattle.ffm_model.specs.Calls.{call_case, case_of, effect_of, effect_or_error, error_effect, has_call, programmer_error, refusal_of}
use Rattle.ffm_model.specs.ClientCalls.{Move, Effect, in_state}
use Rattle.ffm_model.specs.ServiceCalls.{psa_get}
use Rattle.ffm_model.specs.State.{State, fresh, handle_eq}
use Rattle.ffm_model.specs.Step.{step, step_on, handle_allowed, handle_shown, outcome_eq}
use Rattle.trace_print.proofs.Options.{Gives, done, nothing, either, when}
use Rattle.ffm_model.proofs.RunLemmas.{none-stays, some-is}
use Rattle.law_lists.proofs.Bools.{or_rest}

abbrev pub is_message : Outcome → Bool
is_message (outcome.Got m) = true
is_message _ = false

-- what is answered is no message
NoMessage : {T : Type 0} → (T → Outcome) → T → Type 0
NoMessage answer x = is_message (answer x) ≡ false

other : {T : Type 0} (answer : T → Outcome) (x : T) → is_message (answer x) ≡ false → NoMessage answer x
unfolding NoMessage
other answer x h = h

one_of : {T : Type 0} (answer : T → Outcome) (c : Bool) (x y : T) → NoMessage answer x → NoMessage answer y → NoMessage answer (if c then x else y)
one_of answer true x y h k = h
one_of answer false x y h k = k

next : {A T : Type 0} (answer : T → Outcome) (o : Option A) (f : A → Option T) → ((x : A) → Gives (f x) (NoMessage answer)) → Gives (option_and_then f o) (NoMessage answer)
unfolding Gives
next answer (Some x) f h = h x
next answer None f h = tt

mapped : {A T : Type 0} (answer : T → Outcome) (o : Option A) (f : A → T) → ((x : A) → NoMessage answer (f x)) → Gives (option_map f o) (NoMessage answer)
unfolding Gives
mapped answer (Some x) f h = h x
mapped answer None f h = tt

by_place : {A T : Type 0} (answer : T → Outcome) (o : Option A) (f : A → Option T) (p : Option T) → ((x : A) → Gives (f x) (NoMessage answer)) → Gives p (NoMessage answer)
    → Gives (option_map_or f o p) (NoMessage answer)
by_place answer (Some x) f p h k = h x
by_place answer None f p h k = k

abbrev of_move : Move → Outcome
of_move m = m.outcome

abbrev of_effect : Effect → Outcome
of_effect e = e.outcome

moved : (st : State) (o : Option Move) → Gives o (NoMessage of_move) → Gives (option_map (in_state st) o) (NoMessage of_effect)
unfolding Gives NoMessage
moved st (Some m) h = h
moved st None h = tt

-- psa_get, and the return of a call that waited
abbrev is_giving : Call → Bool
is_giving (call.Get signal msg) = true
is_giving call.Resume = true
is_giving _ = false

-- no other call has a message for an answer
no_message : (s : System) (st : State) (a : ℕ) (c : Call) (h : Handle) → is_giving c ≡ false → Gives (call_case s st a c h) (NoMessage of_effect)
no_message s st a (call.Get signal msg) h k = cc
no_message s st a call.Resume h k = cc
no_message s st a c h k = search (moved, mapped, next, by_place, either, done, nothing, one_of, other) depth 14

refused : (c : Call) → is_message (refusal_of c) ≡ false
refused (call.Connect sid version) = refl
refused _ = refl

-- nor has a PROGRAMMER ERROR
no_error_message : (k : ActorKind) (s : System) (st : State) (a : ℕ) (c : Call) → is_message (error_effect k s st a c).outcome ≡ false
no_error_message Client s st a c = refused c
no_error_message _ s st a c = refl

no_effect_message : (o : Option Effect) (k : ActorKind) (s : System) (st : State) (a : ℕ) (c : Call) → Gives o (NoMessage of_effect) → is_message (effect_or_error o k s st a c).outcome ≡ false
unfolding Gives NoMessage
no_effect_message (Some e) k s st a c h = h
no_effect_message None k s st a c h = no_error_message k s st a c

differs : (o : Outcome) (m : Message) → is_message o ≡ false → outcome_eq o (outcome.Got m) ≡ false
differs (outcome.Got n) m h = cc
differs _ m h = refl

-- ---- psa_get is a PROGRAMMER ERROR whatever handle is shown, and gives a fresh one

-- both are there, or neither
Alike : {T : Type 0} → Option T → Option T → Type 0
Alike p q = is_none p ≡ is_none q

alike_some : {T : Type 0} (x y : T) → Alike (Some x) (Some y)
unfolding Alike
alike_some x y = refl

alike_if : {T : Type 0} (c : Bool) (p q : Option T) → Alike p q → Alike (if c then p else None) (if c then q else None)
unfolding Alike
alike_if true p q h = h
alike_if false p q h = refl

alike_next : {A T : Type 0} (o : Option A) (f g : A → Option T) → ((x : A) → Alike (f x) (g x)) → Alike (option_and_then f o) (option_and_then g o)
unfolding Alike
alike_next (Some x) f g h = h x
alike_next None f g h = refl

get_alike : (s : System) (st : State) (a signal msg : ℕ) (h k : Handle) → Alike (psa_get s st a signal msg h) (psa_get s st a signal msg k)
get_alike s st a signal msg h k = search (alike_next, alike_if, alike_some)

case_alike : (s : System) (st : State) (a signal msg : ℕ) (h k : Handle) → is_none (case_of s st a (call.Get signal msg) h) ≡ is_none (case_of s st a (call.Get signal msg) k)
unfolding Alike
case_alike s st a signal msg h k = alike_if (has_call (kind_of s a) (call.Get signal msg)) _ _ (get_alike s st a signal msg h k)

due_some : (o : Option Effect) (k : ActorKind) (s : System) (st : State) (a : ℕ) (c : Call) (m : Message) → outcome_eq (effect_or_error o k s st a c).outcome (outcome.Got m) ≡ true → is_none o ≡ false
due_some (Some e) k s st a c m due = refl
due_some None k s st a c m due = sym due ∙ differs (error_effect k s st a c).outcome m (no_error_message k s st a c)

first_two : (x y z : Bool) → (x && y && z) ≡ true → (x && y) ≡ true
first_two true true z h = refl
first_two x y z h = cc

-- from 1 to 0x3fffffff
abbrev pub is_small : ℤ → Bool
is_small z = int_le (pos 1) z && int_le z (pos 0x3fffffff)

get_small : (s : System) (st : State) (a signal msg : ℕ) (m : Message) → handle_allowed s st a (call.Get signal msg) m.handle ≡ true → outcome_eq (effect_of s st a (call.Get signal msg) m.handle).outcome (outcome.Got m) ≡ true → is_small m.handle.0 ≡ true
get_small s st a signal msg m allowed due =
    let c : Call = call.Get signal msg in
    let made : is_none (case_of s st a c m.handle) ≡ false = due_some (case_of s st a c m.handle) (kind_of s a) s st a c m due in
    let legal : programmer_error s st a c ≡ false = case_alike s st a signal msg (record { 0 = pos 0 }) m.handle ∙ made in
    let is_fresh : fresh st m.handle ≡ true = or_rest (programmer_error s st a c) (fresh st m.handle) legal allowed in
    first_two (int_le (pos 1) m.handle.0) (int_le m.handle.0 (pos 0x3fffffff)) (not (list_any (handle_eq m.handle) st.handles_given)) is_fresh

-- ---- in a step

-- whether a call may give a message
abbrev pub may_give : Call → Message → Bool
may_give (call.Get signal msg) m = is_small m.handle.0
may_give call.Resume m = true
may_give _ m = false

given : (s : System) (st : State) (a : ℕ) (c : Call) (m : Message) → handle_allowed s st a c m.handle ≡ true → outcome_eq (effect_of s st a c m.handle).outcome (outcome.Got m) ≡ true → may_give c m ≡ true
given s st a (call.Get signal msg) m allowed due = get_small s st a signal msg m allowed due
given s st a call.Resume m allowed due = refl
given s st a c m allowed due =
    let never : Gives (case_of s st a c m.handle) (NoMessage of_effect) = when (has_call (kind_of s a) c) _ _ (λ _. no_message s st a c m.handle refl) in
    sym (differs _ m (no_effect_message (case_of s st a c m.handle) (kind_of s a) s st a c never)) ∙ due

-- a message is an answer that its call may give
abbrev pub gives_rightly : Call → Outcome → Bool
gives_rightly c (outcome.Got m) = may_give c m
gives_rightly c _ = true

answered : (s : System) (st : State) (a : ℕ) (c : Call) (o : Outcome) → handle_allowed s st a c (handle_shown o) ≡ true → outcome_eq (effect_of s st a c (handle_shown o)).outcome o ≡ true → gives_rightly c o ≡ true
answered s st a c (outcome.Got m) allowed due = given s st a c m allowed due
answered s st a c _ allowed due = refl

last_tests : {X : Type 0} (p q r : Bool) (x : X) → IsSome (if p && q && r then Some x else None) → (q ≡ true) × (r ≡ true)
last_tests true true true x h = (refl, refl)
last_tests p q r x h = cc

step_gives : (s : System) (st : State) (e : Entry) → IsSome (step s st e) → gives_rightly e.call e.outcome ≡ true
unfolding step
step_gives s st e h =
    let tests : (handle_allowed s st e.actor.0 e.call (handle_shown e.outcome) ≡ true) × (outcome_eq (effect_of s st e.actor.0 e.call (handle_shown e.outcome)).outcome e.outcome ≡ true) = last_tests _ _ _ _ h in
    answered s st e.actor.0 e.call e.outcome tests.0 tests.1

-- ---- in a run

first_gives : (s : System) (st : Option State) (e : Entry) (es : List Entry) → IsSome (fold (step_on s) (step_on s st e) es) → gives_rightly e.call e.outcome ≡ true
first_gives s None e es h = absurd (let n : fold (step_on s) None es ≡ None = none-stays s es in cc)
first_gives s (Some x) e es h =
    step_gives s x e (some-is (step s x e) (λ q. let n : fold (step_on s) (step s x e) es ≡ None = ap (λ o. fold (step_on s) o es) q ∙ none-stays s es in cc))

-- each entry of a run
pub each_gives : (s : System) (st : Option State) (es : List Entry) → IsSome (fold (step_on s) st es) → AllByRecursion (λ e. gives_rightly e.call e.outcome ≡ true) es
each_gives s st [] h = tt
each_gives s st (e ∷ es) h = (first_gives s st e es h, each_gives s (step_on s st e) es h)
