-- What a step says of an actor's own call, and of a partition's psa_get.
use Rattle.std.proofs.Common.{ℕ, ◌≡◌, Bool, true, false, refl, ap, ap₂, ◌∙◌, subst}
use Rattle.std.specs.Prelude.{pos, Option, Some, None, if◌then◌else◌, find, is_none, option_and_then}
use Rattle.ffm_model.specs.declared.system.System.{System}
use Rattle.ffm_model.specs.declared.system.ActorKind.{ActorKind}
use Rattle.ffm_model.specs.declared.system.ActorKind.TheVariants.{Partition}
use Rattle.ffm_model.specs.declared.machine.Handle.{Handle}
use Rattle.ffm_model.specs.declared.machine.Entry.{Entry}
use Rattle.ffm_model.specs.declared.machine.Call.{Call}
use Rattle.ffm_model.specs.declared.machine.Call.TheVariants as call
use Rattle.ffm_model.specs.declared.machine.Outcome.{Outcome}
use Rattle.ffm_model.specs.declared.objects.PendingMessage.{PendingMessage}
use Rattle.ffm_model.specs.Actors.{kind_of}
use Rattle.ffm_model.specs.Memory.{valid_buffer}
use Rattle.ffm_model.specs.State.{State, phase_of, fresh, is_undelivered}
use Rattle.ffm_model.specs.ClientCalls.{Effect}
use Rattle.ffm_model.specs.ServiceCalls.{get_of, message_size, service_of_signal}
use Rattle.ffm_model.specs.Calls.{has_call, case_of, programmer_error, effect_of}
use Rattle.ffm_model.specs.Step.{step, may_call, handle_allowed, gives_handle, handle_shown, outcome_eq}
use Rattle.law_counting.proofs.Steps.{step-is, new_handle}

-- what a step says, with the actor and the call put in
pub record Own (s : System) (st new : State) (a : ℕ) (c : Call) (o : Outcome) : Type 0 where
  pub may : may_call s st.spm a c ≡ true
  pub allowed : handle_allowed s st a c (handle_shown o) ≡ true
  pub outcome : outcome_eq (effect_of s st a c (handle_shown o)).outcome o ≡ true
  pub state : (effect_of s st a c (handle_shown o)).state ≡ new

pub own-step : (s : System) (st new : State) (e : Entry) (a : ℕ) (c : Call) → step s st e ≡ Some new → e.actor.0 ≡ a → e.call ≡ c → Own s st new a c e.outcome
own-step s st new e a c h at is =
    let it = step-is s st new e h in
    let whole : Own s st new e.actor.0 e.call e.outcome = record { may = it.may; allowed = it.allowed; outcome = it.outcome; state = it.state } in
    subst (λ (x : ℕ). Own s st new x c e.outcome) at (subst (λ (d : Call). Own s st new e.actor.0 d e.outcome) is whole)

-- ---- psa_get

get-choice : System → State → ℕ → ℕ → ℕ → Handle → ActorKind → Option ℕ → (ℕ → Option PendingMessage) → Bool → Option Effect
get-choice s st a signal msg h k at find_at room =
    if has_call k (call.Get signal msg) then option_and_then (λ i. option_and_then (λ m. if room then Some (get_of s st i msg h m) else None) (find_at i)) at else None

get-is : (s : System) (st : State) (a signal msg : ℕ) (h : Handle)
    → case_of s st a (call.Get signal msg) h ≡ get-choice s st a signal msg h (kind_of s a) (service_of_signal s a signal) (λ i. find (is_undelivered i) st.spm.messages) (valid_buffer s a msg message_size)
unfolding get-choice
get-is s st a signal msg h = refl

-- where a message waits and there is room, it is delivered
pub get-due : (s : System) (st : State) (a signal msg v : ℕ) (m : PendingMessage) (h : Handle) → kind_of s a ≡ Partition → service_of_signal s a signal ≡ Some v → find (is_undelivered v) st.spm.messages ≡ Some m
    → valid_buffer s a msg message_size ≡ true → case_of s st a (call.Get signal msg) h ≡ Some (get_of s st v msg h m)
unfolding get-choice
get-due s st a signal msg v m h kind found first room =
    get-is s st a signal msg h
    ∙ (ap (λ (k : ActorKind). get-choice s st a signal msg h k (service_of_signal s a signal) (λ i. find (is_undelivered i) st.spm.messages) (valid_buffer s a msg message_size)) kind
    ∙ (ap₂ (λ (x : Option ℕ) (b : Bool). get-choice s st a signal msg h Partition x (λ i. find (is_undelivered i) st.spm.messages) b) found room
    ∙ ap (λ (x : Option PendingMessage). option_and_then (λ m. Some (get_of s st v msg h m)) x) first))

-- and the handle that it gives is new
pub get-fresh : (s : System) (st : State) (a signal msg v : ℕ) (m : PendingMessage) (h : Handle) → kind_of s a ≡ Partition → service_of_signal s a signal ≡ Some v → find (is_undelivered v) st.spm.messages ≡ Some m
    → valid_buffer s a msg message_size ≡ true → handle_allowed s st a (call.Get signal msg) h ≡ true → fresh st h ≡ true
get-fresh s st a signal msg v m h kind found first room allowed =
    let right : programmer_error s st a (call.Get signal msg) ≡ false = ap (λ (x : Option Effect). is_none x) (get-due s st a signal msg v m (record { 0 = pos 0 }) kind found first room) in
    new_handle (programmer_error s st a (call.Get signal msg)) (gives_handle (phase_of st.spm a) (call.Get signal msg)) (fresh st h) right refl allowed
