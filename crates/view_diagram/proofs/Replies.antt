-- A reply that is done answers the message that has its handle.
use Rattle.std.proofs.Common.{ℕ, ◌≡◌, Bool, true, false, not, ◌&&◌, ap, sym, refl, subst, ◌∙◌}
use Rattle.std.specs.Prelude.{ℤ, Option, Some, None, option_and_then, if◌then◌else◌}
use Rattle.std.specs.Option.{option_map}
use Rattle.std.specs.Ordering.{int_eq}
use Rattle.ffm_model.specs.declared.constants.TheConstants.{PSA_IPC_CONNECT}
use Rattle.ffm_model.specs.declared.system.System.{System}
use Rattle.ffm_model.specs.declared.system.ActorKind.{ActorKind}
use Rattle.ffm_model.specs.declared.system.ActorKind.TheVariants.{Partition}
use Rattle.ffm_model.specs.declared.machine.Handle.{Handle}
use Rattle.ffm_model.specs.declared.machine.Status.{Status}
use Rattle.ffm_model.specs.declared.machine.Entry.{Entry}
use Rattle.ffm_model.specs.declared.machine.Call.{Call}
use Rattle.ffm_model.specs.declared.machine.Call.TheVariants as call
use Rattle.ffm_model.specs.declared.machine.Outcome.{Outcome}
use Rattle.ffm_model.specs.declared.machine.Outcome.TheVariants as outcome
use Rattle.ffm_model.specs.declared.objects.PendingMessage.{PendingMessage}
use Rattle.ffm_model.specs.Actors.{kind_of}
use Rattle.ffm_model.specs.State.{SpmState, State, message_held}
use Rattle.ffm_model.specs.Panic.{panic_effect}
use Rattle.ffm_model.specs.ClientCalls.{Effect}
use Rattle.ffm_model.specs.ServiceCalls.{is_connect_status, owes_panic, psa_reply, replied, reply_of}
use Rattle.ffm_model.specs.Calls.{effect_of, effect_or_error, error_effect, has_call}
use Rattle.ffm_model.specs.Step.{handle_shown, outcome_eq, step}
use Rattle.law_counting.proofs.Events.{IfThere}
use Rattle.law_counting.proofs.Steps.{Stepped, step-is}
use Rattle.law_counting.proofs.Outcomes.{same-kind}

-- the message is gone, its client is answered, and panics where it owes that
pub record IsReplied (s : System) (b : SpmState) (a : ℕ) (h : Handle) (status : ℤ) (new : SpmState) : Type 0 where
  pub message : PendingMessage
  pub held : message_held s b a h ≡ Some message
  pub spm : new ≡ (if owes_panic s message status then panic_effect s (replied s b h status message) message.client.0 else replied s b h status message)

abbrev is_done : Outcome → Bool
is_done outcome.Done = true
is_done _ = false

abbrev Replies : System → State → ℕ → Handle → ℤ → Effect → Type 0
Replies s st a h status e = is_done e.outcome ≡ true → IsReplied s st.spm a h status e.state.spm

allowed-replies : (s : System) (st : State) (a : ℕ) (h : Handle) (status : ℤ) (m : PendingMessage) (x : Bool) → message_held s st.spm a h ≡ Some m → IfThere (option_map (reply_of s st h status) (if x then None else Some m)) (Replies s st a h status)
allowed-replies s st a h status m true held = tt
allowed-replies s st a h status m false held = λ done. record { message = m; held = held; spm = refl }

held-replies : (s : System) (st : State) (a : ℕ) (h : Handle) (status : ℤ) (o : Option PendingMessage) → message_held s st.spm a h ≡ o
    → IfThere (option_map (reply_of s st h status) (option_and_then (λ m. if int_eq m.kind PSA_IPC_CONNECT && not (is_connect_status status) then None else Some m) o)) (Replies s st a h status)
held-replies s st a h status None held = tt
held-replies s st a h status (Some m) held = allowed-replies s st a h status m (int_eq m.kind PSA_IPC_CONNECT && not (is_connect_status status)) held

error-replies : (s : System) (st : State) (a : ℕ) (h : Handle) (status : Status) (k : ActorKind) → Replies s st a h status.0 (error_effect k s st a (call.Reply h status))
error-replies s st a h status Partition = λ done. cc
error-replies s st a h status _ = λ done. cc

made-replies : (s : System) (st : State) (a : ℕ) (h : Handle) (status : Status) (k : ActorKind) (o : Option Effect) → IfThere o (Replies s st a h status.0) → Replies s st a h status.0 (effect_or_error o k s st a (call.Reply h status))
made-replies s st a h status k None there = error-replies s st a h status k
made-replies s st a h status k (Some e) there = there

effect-replies : (s : System) (st : State) (a : ℕ) (h : Handle) (status : Status) (x : Bool) → Replies s st a h status.0 (effect_or_error (if x then psa_reply s st a h status.0 else None) (kind_of s a) s st a (call.Reply h status))
effect-replies s st a h status true = made-replies s st a h status (kind_of s a) (psa_reply s st a h status.0) (held-replies s st a h status.0 (message_held s st.spm a h) refl)
effect-replies s st a h status false = error-replies s st a h status (kind_of s a)

done-due : (o p : Outcome) → outcome_eq o p ≡ true → is_done p ≡ true → is_done o ≡ true
done-due o p e k = same-kind is_done (λ z w e. refl) (λ n k e. refl) (λ n k e. refl) (λ m n e. refl) o p e ∙ k

pub step-replies : (s : System) (st new : State) (e : Entry) (h : Handle) (status : Status) → step s st e ≡ Some new → e.call ≡ call.Reply h status → e.outcome ≡ outcome.Done → IsReplied s st.spm e.actor.0 h status.0 new.spm
step-replies s st new e h status is reply done =
    let it : Stepped s st new e = step-is s st new e is in
    let a : ℕ = e.actor.0 in
    let shown : Handle = handle_shown e.outcome in
    let own : Replies s st a h status.0 (effect_of s st a e.call shown) =
    subst (λ (d : Call). Replies s st a h status.0 (effect_of s st a d shown)) (sym reply) (effect-replies s st a h status (has_call (kind_of s a) (call.Reply h status))) in
    subst (λ (x : State). IsReplied s st.spm a h status.0 x.spm) it.state (own (done-due (effect_of s st a e.call shown).outcome e.outcome it.outcome (ap is_done done)))
