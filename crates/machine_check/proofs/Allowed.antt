-- The handle that a call gives, and where the machine allows it.
use Rattle.std.proofs.Common.{ℕ, ◌≡◌, Bool, true, false, refl, ap, sym, ◌∙◌}
use Rattle.std.specs.Prelude.{Option, Some, None, option_and_then, find, is_none, ◌||◌, not, if◌then◌else◌, pos}
use Rattle.ffm_model.specs.declared.system.System.{System}
use Rattle.ffm_model.specs.declared.system.ActorKind.{ActorKind}
use Rattle.ffm_model.specs.declared.system.ActorKind.TheVariants.{Partition, Client, Device}
use Rattle.ffm_model.specs.declared.machine.Call.{Call}
use Rattle.ffm_model.specs.declared.machine.Call.TheVariants as call
use Rattle.ffm_model.specs.declared.machine.Handle.{Handle}
use Rattle.ffm_model.specs.declared.machine.Outcome.{Outcome}
use Rattle.ffm_model.specs.declared.objects.ActorPhase.{ActorPhase}
use Rattle.ffm_model.specs.declared.objects.ActorPhase.TheVariants as phase
use Rattle.ffm_model.specs.declared.objects.PendingMessage.{PendingMessage}
use Rattle.ffm_model.specs.Actors.{kind_of}
use Rattle.ffm_model.specs.State.{State, phase_of, fresh, is_undelivered}
use Rattle.ffm_model.specs.Memory.{valid_buffer}
use Rattle.ffm_model.specs.ClientCalls.{Effect, effect}
use Rattle.ffm_model.specs.ServiceCalls.{get_of, service_of_signal, message_size}
use Rattle.ffm_model.specs.Calls.{effect_of, effect_or_error, error_effect, has_call, programmer_error, call_case}
use Rattle.ffm_model.specs.Step.{gives_handle, handle_allowed}
use Rattle.machine_check.specs.Performed.{gave_handle}

or_true : (b c : Bool) → (b || (true || c)) ≡ true
or_true true c = refl
or_true false c = refl

-- psa_get gives a message under any handle, or is a PROGRAMMER ERROR
pub get_cases : (s : System) (st : State) (a signal msg : ℕ) (k : ActorKind) (P : (Handle → Option Effect) → Type 0) → P (λ h. None) → ((i : ℕ) (m : PendingMessage) → P (λ h. Some (get_of s st i msg h m)))
    → P (λ h. if has_call k (call.Get signal msg) then call_case s st a (call.Get signal msg) h else None)
get_cases s st a signal msg Partition P none some = by_service (valid_buffer s a msg message_size) (service_of_signal s a signal) where
  by_message : (v : Bool) (i : ℕ) (o : Option PendingMessage) → P (λ h. option_and_then (λ m. if v then Some (get_of s st i msg h m) else None) o)
  by_message true i (Some m) = some i m
  by_message false i (Some m) = none
  by_message v i None = none

  by_service : (v : Bool) (o : Option ℕ) → P (λ h. option_and_then (λ i. option_and_then (λ m. if v then Some (get_of s st i msg h m) else None) (find (is_undelivered i) st.spm.messages)) o)
  by_service v (Some i) = by_message v i (find (is_undelivered i) st.spm.messages)
  by_service v None = none
get_cases s st a signal msg Client P none some = none
get_cases s st a signal msg Device P none some = none

-- and a PROGRAMMER ERROR gives no handle
pub error_gives_none : (s : System) (st : State) (a signal msg : ℕ) (p : ActorPhase) (k : ActorKind) → gave_handle p (call.Get signal msg) (error_effect k s st a (call.Get signal msg)).outcome ≡ false
error_gives_none s st a signal msg p Partition = refl
error_gives_none s st a signal msg p k = refl

-- a return is never a PROGRAMMER ERROR
by_return : (s : System) (st : State) (a : ℕ) (h : Handle) (o : Outcome) (k : ActorKind) (p : ActorPhase)
    → (is_none (if has_call k call.Resume then call_case s st a call.Resume (record { 0 = pos 0 }) else None) || (not (gives_handle p call.Resume) || fresh st h)) ≡ (not (gave_handle p call.Resume o) || fresh st h)
by_return s st a h o Partition (phase.Connected c) = refl
by_return s st a h o Client (phase.Connected c) = refl
by_return s st a h o Device (phase.Connected c) = refl
by_return s st a h o k p = refl

-- the machine allows the handle exactly where the call gave none, or a fresh one
pub allowed_gave : (s : System) (st new : State) (a : ℕ) (c : Call) (h : Handle) (o : Outcome) → effect_of s st a c h ≡ effect o new
    → handle_allowed s st a c h ≡ (not (gave_handle (phase_of st.spm a) c o) || fresh st h)
allowed_gave s st new a (call.Get signal msg) h o e =
    get_cases s st a signal msg (kind_of s a)
    (λ due. effect_or_error (due h) (kind_of s a) s st a (call.Get signal msg) ≡ effect o new → (is_none (due (record { 0 = pos 0 })) || (not true || fresh st h)) ≡ (not (gave_handle (phase_of st.spm a) (call.Get signal msg) o) || fresh st h))
    (λ is. ap (λ b. not b || fresh st h) (sym (error_gives_none s st a signal msg (phase_of st.spm a) (kind_of s a)) ∙ ap (λ x. gave_handle (phase_of st.spm a) (call.Get signal msg) x.outcome) is))
    (λ i m is. ap (λ x. not (gave_handle (phase_of st.spm a) (call.Get signal msg) x.outcome) || fresh st h) is) e
allowed_gave s st new a call.Resume h o e = by_return s st a h o (kind_of s a) (phase_of st.spm a)
allowed_gave s st new a c h o e = or_true (programmer_error s st a c) (fresh st h)
