-- Laws of steps and runs, for the crates above.
use Rattle.std.proofs.Common.{ℕ, ◌≡◌, Bool, true, false, cond, ◌&&◌, List, [], ◌∷◌, ◌++◌, refl, ap, sym, ◌∙◌, ℤ, eq-eqb}
use Rattle.std.specs.Prelude.{IfSome, Option, Some, None, option_and_then, if◌then◌else◌}
use Rattle.std.specs.Ordering.{int_eq}
use Rattle.std.specs.Str.{bytes_eq}
use Rattle.std.proofs.lemmas.Bool.Decides.{Decides-int_eq}
use Rattle.std.proofs.lemmas.Bool.{and_from}
use Rattle.std.proofs.lemmas.Option.{cond_some}
use Rattle.std.proofs.lemmas.List.Sums.{fold-append}
use Rattle.ffm_model.specs.declared.system.System.{System}
use Rattle.ffm_model.specs.declared.machine.Entry.{Entry}
use Rattle.ffm_model.specs.declared.machine.Handle.{Handle}
use Rattle.ffm_model.specs.declared.machine.Message.{Message}
use Rattle.ffm_model.specs.declared.machine.Call.{Call}
use Rattle.ffm_model.specs.declared.machine.Outcome.{Outcome}
use Rattle.ffm_model.specs.declared.machine.Outcome.TheVariants.{Value, Number, Signals, Got, Blocked, Done, Panicked}
use Rattle.ffm_model.specs.Memory.{ByteMap}
use Rattle.ffm_model.specs.State.{State, opening}
use Rattle.ffm_model.specs.Actors.{kind_of}
use Rattle.ffm_model.specs.ClientCalls.{Effect, effect}
use Rattle.ffm_model.specs.Calls.{call_case, effect_of, effect_or_error, error_effect, has_call}
use Rattle.ffm_model.specs.Step.{step, step_on, after, outcome_eq, message_eq, may_call, handle_allowed, handle_shown}
use Rattle.ffm_model.specs.Names.{named_step, named_step_on, named_after, first_named}

-- one entry more
pub after-push : (s : System) (m : ByteMap) (es : List Entry) (e : Entry) → after s m (es ++ e ∷ []) ≡ option_and_then (λ x. step s x e) (after s m es)
after-push s m es e = fold-append (step_on s) (Some (opening s m)) es (e ∷ [])

pub named_after-push : (s : System) (m : ByteMap) (es : List Entry) (e : Entry) → named_after s m (es ++ e ∷ []) ≡ option_and_then (λ x. named_step s x e) (named_after s m es)
named_after-push s m es e = fold-append (named_step_on s) (Some (first_named s m)) es (e ∷ [])

pub int_eq-self : (z : ℤ) → int_eq z z ≡ true
int_eq-self z = (Decides-int_eq z z).1 refl

pub bytes_eq-self : (xs : List ℕ) → bytes_eq xs xs ≡ true
bytes_eq-self [] = refl
bytes_eq-self (x ∷ xs) = and_from _ _ (eq-eqb x x refl) (bytes_eq-self xs)

pub message_eq-self : (m : Message) → message_eq m m ≡ true
message_eq-self m =
    and_from _ _ (int_eq-self m.kind) (and_from _ _ (int_eq-self m.handle.0) (and_from _ _ (int_eq-self m.client_id)
    (and_from _ _ (eq-eqb m.rhandle m.rhandle refl) (and_from _ _ (bytes_eq-self m.in_size) (bytes_eq-self m.out_size)))))

pub outcome_eq-self : (o : Outcome) → outcome_eq o o ≡ true
outcome_eq-self (Value z) = int_eq-self z
outcome_eq-self (Number n) = eq-eqb n n refl
outcome_eq-self (Signals n) = eq-eqb n n refl
outcome_eq-self (Got m) = message_eq-self m
outcome_eq-self Blocked = refl
outcome_eq-self Done = refl
outcome_eq-self Panicked = refl

-- an entry with the outcome that is due
pub record Fits (s : System) (st : State) (e : Entry) : Type 0 where
  pub may : may_call s st.spm e.actor.0 e.call ≡ true
  pub allowed : handle_allowed s st e.actor.0 e.call (handle_shown e.outcome) ≡ true
  pub outcome : e.outcome ≡ (effect_of s st e.actor.0 e.call (handle_shown e.outcome)).outcome

taken : (a b : Bool) (due o : Outcome) (st : State) → a ≡ true → b ≡ true → o ≡ due → (if a && b && outcome_eq due o then Some st else None) ≡ Some st
taken a b due o st h k q = rw (h, k, q, outcome_eq-self due) refl

-- is a step, to the state that the call leaves
pub step-fits : (s : System) (st : State) (e : Entry) → Fits s st e → step s st e ≡ Some (effect_of s st e.actor.0 e.call (handle_shown e.outcome)).state
unfolding step
step-fits s st e f = taken _ _ _ _ _ f.may f.allowed f.outcome

-- an entry with the outcome of the effect is a step
pub step-effect : (s : System) (st new : State) (a : ℕ) (c : Call) (o : Outcome)
    → may_call s st.spm a c ≡ true → handle_allowed s st a c (handle_shown o) ≡ true
    → effect_of s st a c (handle_shown o) ≡ effect o new
    → step s st (record { actor = record { 0 = a }; call = c; outcome = o }) ≡ Some new
step-effect s st new a c o may allowed e =
    let fit : Fits s st (record { actor = record { 0 = a }; call = c; outcome = o }) = record { may = may; allowed = allowed; outcome = sym (ap (λ x. x.outcome) e) } in
    step-fits s st (record { actor = record { 0 = a }; call = c; outcome = o }) fit ∙ ap (λ x. Some x.state) e

-- a step leaves what its call leaves
pub step-leaves : (s : System) (st new : State) (e : Entry) → step s st e ≡ Some new → (effect_of s st e.actor.0 e.call (handle_shown e.outcome)).state ≡ new
unfolding step
step-leaves s st new e h = (cond_some _ _ _ h).1

-- what holds of a call's effect, and of the PROGRAMMER ERROR of its actor, holds of what the call does
pub effect-has : (P : Effect → Type 0) (s : System) (st : State) (a : ℕ) (c : Call) (h : Handle) → P (error_effect (kind_of s a) s st a c) → IfSome (call_case s st a c h) P → P (effect_of s st a c h)
effect-has P s st a c h error made =
    let of_call : (o : Option Effect) → IfSome o P → P (effect_or_error o (kind_of s a) s st a c) = elim [ None ↦ λ m. error | Some e ↦ λ m. m ] in
    let go : (b : Bool) → P (effect_or_error (cond {A = Option Effect} b (call_case s st a c h) None) (kind_of s a) s st a c) = elim [ true ↦ of_call (call_case s st a c h) made | false ↦ error ] in
    go (has_call (kind_of s a) c)
