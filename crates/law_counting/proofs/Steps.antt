-- Each step of the machine makes one of the kinds of change.
use Rattle.std.proofs.Common.{ℕ, ◌≡◌, Bool, true, false, cond, not, ◌&&◌, ◌||◌, List, ◌∙◌, ap, refl, subst}
use Rattle.std.specs.Prelude.{pos, find, Option, Some, None, option_and_then, is_none, if◌then◌else◌}
use Rattle.ffm_model.specs.declared.constants.TheConstants.{PSA_ERROR_PROGRAMMER_ERROR}
use Rattle.ffm_model.specs.declared.system.System.{System}
use Rattle.ffm_model.specs.declared.system.ActorKind.{ActorKind}
use Rattle.ffm_model.specs.declared.system.ActorKind.TheVariants.{Partition, Client, Device}
use Rattle.ffm_model.specs.declared.machine.Handle.{Handle}
use Rattle.ffm_model.specs.declared.machine.Entry.{Entry}
use Rattle.ffm_model.specs.declared.machine.Call.{Call}
use Rattle.ffm_model.specs.declared.machine.Call.TheVariants as call
use Rattle.ffm_model.specs.declared.machine.Outcome.{Outcome}
use Rattle.ffm_model.specs.declared.machine.Outcome.TheVariants as outcome
use Rattle.ffm_model.specs.declared.objects.PendingMessage.{PendingMessage}
use Rattle.ffm_model.specs.declared.objects.ActorPhase.{ActorPhase}
use Rattle.ffm_model.specs.declared.objects.ActorPhase.TheVariants.{Running}
use Rattle.ffm_model.specs.Actors.{kind_of}
use Rattle.ffm_model.specs.Memory.{valid_buffer}
use Rattle.ffm_model.specs.State.{SpmState, State, phase_of, fresh, is_undelivered}
use Rattle.ffm_model.specs.Signals.{may_resume}
use Rattle.ffm_model.specs.ClientCalls.{Effect}
use Rattle.ffm_model.specs.ServiceCalls.{psa_get, get_of, message_size, service_of_signal}
use Rattle.ffm_model.specs.Calls.{has_call, call_case, programmer_error, refusal_of, error_effect, effect_or_error, effect_of}
use Rattle.ffm_model.specs.Step.{step, may_call, returns_when_due, handle_allowed, gives_handle, handle_shown, outcome_eq}
use Rattle.law_counting.proofs.Events.{EachKind, Says, IfThere, caller-running, call-kind}

-- whether psa_get is a PROGRAMMER ERROR doesn't hang on the handle
pub get-alike : (s : System) (st : State) (a signal msg : ℕ) (h k : Handle) → is_none (psa_get s st a signal msg h) ≡ is_none (psa_get s st a signal msg k)
get-alike s st a signal msg h k =
    let at : Handle → ℕ → PendingMessage → Option Effect = λ x i m. if valid_buffer s a msg message_size then Some (get_of s st i msg x m) else None in
    let on : (i : ℕ) (m : PendingMessage) (x : Bool) → is_none (if x then Some (get_of s st i msg h m) else None) ≡ is_none (if x then Some (get_of s st i msg k m) else None) =
    λ i m. elim [ true ↦ refl | false ↦ refl ] in
    let within : (i : ℕ) (o : Option PendingMessage) → is_none (option_and_then (at h i) o) ≡ is_none (option_and_then (at k i) o) =
    λ i. elim [ None ↦ refl | Some m ↦ on i m (valid_buffer s a msg message_size) ] in
    let go : (o : Option ℕ) → is_none (option_and_then (λ i. option_and_then (at h i) (find (is_undelivered i) st.spm.messages)) o) ≡ is_none (option_and_then (λ i. option_and_then (at k i) (find (is_undelivered i) st.spm.messages)) o) =
    elim [ None ↦ refl | Some i ↦ within i (find (is_undelivered i) st.spm.messages) ] in
    go (service_of_signal s a signal)

pub alike : (s : System) (st : State) (a : ℕ) (c : Call) (h k : Handle) → is_none (call_case s st a c h) ≡ is_none (call_case s st a c k)
alike s st a (call.Get signal msg) h k = get-alike s st a signal msg h k
alike s st a _ h k = refl

-- the call is no return, unless it is made
is_call_or : (s : System) (st : State) (a : ℕ) (c : Call) (h : Handle) (P : Type 0) → call_case s st a c h ≡ None → (((p : ActorPhase) → returns_when_due c p ≡ not (may_resume p)) → P) → P
is_call_or s st a call.Resume h P e f = cc
is_call_or s st a _ h P e f = f (λ p. refl)

-- each kind of actor has the return of its calls
lacks_call : (k : ActorKind) (c : Call) (P : Type 0) → has_call k c ≡ false → (((p : ActorPhase) → returns_when_due c p ≡ not (may_resume p)) → P) → P
lacks_call Partition call.Resume P e f = cc
lacks_call Client call.Resume P e f = cc
lacks_call Device call.Resume P e f = cc
lacks_call k _ P e f = f (λ p. refl)

-- a PROGRAMMER ERROR
refused-kind : (s : System) (st : State) (a : ℕ) (c : Call) (Q : Outcome → SpmState → List Handle → Type 0) → EachKind s st.spm st.handles_given a c Q → phase_of st.spm a ≡ Running → Q (refusal_of c) st.spm st.handles_given
refused-kind s st a (call.Connect sid version) Q k running = k.beside running (refusal_of (call.Connect sid version)) st.spm.doorbells st.spm.sources refl
refused-kind s st a (call.Close c) Q k running = k.beside running (refusal_of (call.Close c)) st.spm.doorbells st.spm.sources refl
refused-kind s st a _ Q k running = k.beside running (outcome.Value PSA_ERROR_PROGRAMMER_ERROR) st.spm.doorbells st.spm.sources refl

error-kind : (s : System) (st : State) (a : ℕ) (c : Call) (Q : Outcome → SpmState → List Handle → Type 0) (kind : ActorKind) → EachKind s st.spm st.handles_given a c Q → phase_of st.spm a ≡ Running → Says Q (error_effect kind s st a c)
error-kind s st a c Q Partition k running = k.panics running
error-kind s st a c Q Client k running = refused-kind s st a c Q k running
error-kind s st a c Q Device k running = k.beside running (outcome.Value PSA_ERROR_PROGRAMMER_ERROR) st.spm.doorbells st.spm.sources refl

-- a handle that is given is fresh
pub new_handle : (f g x : Bool) → f ≡ false → g ≡ true → (f || (not g || x)) ≡ true → x ≡ true
new_handle true g x e k h = cc
new_handle false true x e k h = h
new_handle false false x e k h = cc

effect-kind : (s : System) (st : State) (a : ℕ) (c : Call) (h : Handle) (Q : Outcome → SpmState → List Handle → Type 0) → EachKind s st.spm st.handles_given a c Q → may_call s st.spm a c ≡ true → handle_allowed s st a c h ≡ true
    → Says Q (effect_of s st a c h)
effect-kind s st a c h Q k may allowed =
    let kind : ActorKind = kind_of s a in
    let new : (x : Bool) → has_call kind c ≡ x → x ≡ true → gives_handle (phase_of st.spm a) c ≡ true → is_none (call_case s st a c h) ≡ false → fresh st h ≡ true =
    λ x has yes gives made.
    new_handle (programmer_error s st a c) (gives_handle (phase_of st.spm a) c) (fresh st h)
    (ap (λ y. is_none (cond {A = Option Effect} y (call_case s st a c (record { 0 = pos 0 })) None)) (has ∙ yes) ∙ alike s st a c (record { 0 = pos 0 }) h ∙ made) gives allowed in
    let made : (o : Option Effect) → call_case s st a c h ≡ o → IfThere o (Says Q) → Says Q (effect_or_error o kind s st a c) =
    elim [
      | None ↦ λ e q. is_call_or s st a c h _ e (λ it. error-kind s st a c Q kind k (caller-running s st.spm a c it may))
      | Some x ↦ λ e q. q
    ] in
    let go : (x : Bool) → has_call kind c ≡ x → Says Q (effect_or_error (cond {A = Option Effect} x (call_case s st a c h) None) kind s st a c) =
    elim [
      | true ↦ λ e. made (call_case s st a c h) refl (call-kind s st a c h Q k may (new true e refl))
      | false ↦ λ e. lacks_call kind c _ e (λ it. error-kind s st a c Q kind k (caller-running s st.spm a c it may))
    ] in
    go (has_call kind c) refl

-- what the tests of a step say where it is one
pub record Stepped (s : System) (st new : State) (e : Entry) : Type 0 where
  pub may : may_call s st.spm e.actor.0 e.call ≡ true
  pub allowed : handle_allowed s st e.actor.0 e.call (handle_shown e.outcome) ≡ true
  pub outcome : outcome_eq (effect_of s st e.actor.0 e.call (handle_shown e.outcome)).outcome e.outcome ≡ true
  pub state : (effect_of s st e.actor.0 e.call (handle_shown e.outcome)).state ≡ new

all_true : (a b c : Bool) (x y : State) (P : Type 0) → (if a && b && c then Some x else None) ≡ Some y → (a ≡ true → b ≡ true → c ≡ true → x ≡ y → P) → P
all_true true true true x y P e f = f refl refl refl (let it : x ≡ y = cc in it)
all_true _ _ _ x y P e f = cc

pub step-is : (s : System) (st new : State) (e : Entry) → step s st e ≡ Some new → Stepped s st new e
unfolding step
step-is s st new e h =
    let due : Effect = effect_of s st e.actor.0 e.call (handle_shown e.outcome) in
    all_true (may_call s st.spm e.actor.0 e.call) (handle_allowed s st e.actor.0 e.call (handle_shown e.outcome)) (outcome_eq due.outcome e.outcome) due.state new (Stepped s st new e) h
    (λ may allowed outcome state. record { may = may; allowed = allowed; outcome = outcome; state = state })

-- what each kind keeps, a step keeps; the outcome is that of the entry, but for which numbers it shows
pub step-kind : (s : System) (st new : State) (e : Entry) (Q : Outcome → SpmState → List Handle → Type 0) → EachKind s st.spm st.handles_given e.actor.0 e.call Q → step s st e ≡ Some new
    → (o : Outcome) × (outcome_eq o e.outcome ≡ true) × Q o new.spm new.handles_given
step-kind s st new e Q k h =
    let it : Stepped s st new e = step-is s st new e h in
    let due : Effect = effect_of s st e.actor.0 e.call (handle_shown e.outcome) in
    (due.outcome, it.outcome, subst (λ (x : State). Q due.outcome x.spm x.handles_given) it.state (effect-kind s st e.actor.0 e.call (handle_shown e.outcome) Q k it.may it.allowed))
