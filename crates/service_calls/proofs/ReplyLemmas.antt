-- What psa_reply leaves, from what was done to the message and its connection.
use Rattle.std.proofs.Common.{ℕ, ◌≡◌, Bool, true, false, cond, List, ◌∙◌, ap, sym, refl, subst}
use Rattle.std.specs.Prelude.{ℤ, int_lt, count_by, take, Option, Some, None, IfSome, if◌then◌else◌}
use Rattle.std.specs.Option.{option_map}
use Rattle.std.specs.Ordering.{int_eq}
use Rattle.ffm_model.specs.declared.constants.TheConstants.{PSA_IPC_CALL, PSA_ERROR_PROGRAMMER_ERROR}
use Rattle.ffm_model.specs.declared.machine.ActorId.{ActorId}
use Rattle.ffm_model.specs.declared.machine.Handle.{Handle}
use Rattle.ffm_model.specs.declared.machine.Outcome.TheVariants.{Done, Value}
use Rattle.ffm_model.specs.declared.scenario.Bytes.{Bytes}
use Rattle.ffm_model.specs.declared.system.System.{System}
use Rattle.ffm_model.specs.declared.objects.ConnPhase.TheVariants.{Error, Idle}
use Rattle.ffm_model.specs.declared.objects.PendingMessage.{PendingMessage}
use Rattle.ffm_model.specs.declared.objects.ActorPhase.{ActorPhase}
use Rattle.ffm_model.specs.declared.objects.ActorPhase.TheVariants.{Ready, Running}
use Rattle.ffm_model.specs.Actors.{is_partition, kind_of}
use Rattle.ffm_model.specs.ClientCalls.{Effect, effect}
use Rattle.ffm_model.specs.Memory.{lengths_written}
use Rattle.ffm_model.specs.Panic.{panic_effect}
use Rattle.ffm_model.specs.State.{SpmState, message_held, phase_of, with_phase, without_message}
use Rattle.ffm_model.specs.ServiceCalls.{answered, owes_panic, psa_reply, replied, reply_of, reply_to, request_answered, with_request_phase}
use Rattle.law_calls.specs.Replies.{Answered, reply_on}
use Rattle.law_counting.specs.Objects.{ObjectsFit, accepted_as, is_joining}
use Rattle.law_counting.proofs.Balance.{Balanced, balanced-fit, fit-balanced, one}
use Rattle.law_counting.proofs.Keeps.{ready-quiet, request-ready}
use Rattle.law_counting.proofs.Owed.{owed-request, owed-same, set-twice}
use Rattle.law_counting.proofs.Parts.{is_there}
use Rattle.law_counting.proofs.Reply.{settled, settled-keeps}
use Rattle.law_counting.proofs.Updates.{phased-keeps}
use Rattle.memory_image.specs.Pieces.{byte_at}
use Rattle.object_pools.specs.declared.slot.Slot.{Slot}
use Rattle.handle_table.specs.declared.handles.Family.TheVariants.{Message}
use Rattle.handle_table.specs.Handles.{handle_at}
use Rattle.spm_tables.specs.declared.item.QueuedMessage.{QueuedMessage}
use Rattle.spm_tables.specs.Answers.{state_with}
use Rattle.spm_tables.specs.TablesView.{TablesView, fresh_message, message_of, spm_of}
use Rattle.service_calls.specs.Answers.{once_panicked}
use Rattle.service_calls.proofs.Held.{IsTold, held-told}
use Rattle.law_counting.proofs.Rooms.{reply-fits}
use Rattle.memory_image.proofs.Messages.{reply_is}

-- ---- what is left

-- the message of a slot is gone and its client answered
pub record IsReplied (s : System) (d new : TablesView) (a : ℕ) (k : Handle) (status : ℤ) (t : Slot) (m : QueuedMessage) (owing : Option ActorId) : Type 0 where
  pub found : reply_to s (spm_of d) a k status ≡ Some (message_of t m)
  pub state : spm_of new ≡ replied s (spm_of d) k status (message_of t m)
  pub owes : option_map (λ (p : ActorId). p.0) owing ≡ (if owes_panic s (message_of t m) status then Some m.client.0 else None)

pub was-replied : (s : System) (d mid new : TablesView) (a : ℕ) (k : Handle) (status : ℤ) (t : Slot) (m : QueuedMessage) (owing : Option ActorId) → reply_to s (spm_of d) a k status ≡ Some (message_of t m)
    → (m.delivered ≡ true → spm_of mid ≡ without_message (spm_of d) (handle_at Message t)) → spm_of new ≡ answered s (spm_of mid) (fresh_message m) status
    → option_map (λ (p : ActorId). p.0) owing ≡ (if owes_panic s (fresh_message m) status then Some m.client.0 else None) → IsReplied s d new a k status t m owing
was-replied s d mid new a k status t m owing found dropped answer owes =
    let told : IsTold t m k = held-told s (spm_of d) a k t m (reply_is s (spm_of d) a k status (message_of t m) found) in
    let gone : spm_of mid ≡ without_message (spm_of d) k = dropped told.delivered ∙ ap (λ (h : Handle). without_message (spm_of d) h) told.handle in
    record { found = found; state = answer ∙ ap (λ (b : SpmState). answered s b (fresh_message m) status) gone; owes = owes }

pub left-due : (s : System) (d new : TablesView) (a : ℕ) (k : Handle) (status : ℤ) (t : Slot) (m : QueuedMessage) (owing : Option ActorId) → IsReplied s d new a k status t m owing
    → reply_on s (spm_of d) a k status ≡ Some (record { spm = spm_of new; owing = option_map (λ (p : ActorId). p.0) owing })
left-due s d new a k status t m owing it =
    let n : PendingMessage = message_of t m in
    let left : PendingMessage → Answered = λ x. record { spm = replied s (spm_of d) k status x; owing = if owes_panic s x status then Some x.client.0 else None } in
    ap (option_map left) it.found
    ∙ ap (λ (b : SpmState). Some (record { spm = b; owing = if owes_panic s n status then Some m.client.0 else None })) (sym it.state)
    ∙ ap (λ (o : Option ℕ). Some (record { spm = spm_of new; owing = o })) (sym it.owes)

-- ---- a request

-- what the answer to a request is, where the status is PROGRAMMER ERROR or not, and where the client is a partition or not
pub request-is : (s : System) (b : SpmState) (m : PendingMessage) (status : ℤ) (x y : Bool) → int_eq status PSA_ERROR_PROGRAMMER_ERROR ≡ x → is_partition (kind_of s m.client.0) ≡ y
    → request_answered s b m status
    ≡ cond {A = SpmState} x (cond {A = SpmState} y (with_request_phase b m Error) (with_phase (with_request_phase b m Error) m.client.0 (Ready (Value PSA_ERROR_PROGRAMMER_ERROR))))
    (with_phase (with_request_phase b m Idle) m.client.0 (Ready (Value status)))
request-is s b m status x y e f =
    let owing : SpmState = with_request_phase b m Error in
    let told : SpmState = with_phase owing m.client.0 (Ready (Value PSA_ERROR_PROGRAMMER_ERROR)) in
    let idle : SpmState = with_phase (with_request_phase b m Idle) m.client.0 (Ready (Value status)) in
    ap (λ z. cond {A = SpmState} z (cond {A = SpmState} (is_partition (kind_of s m.client.0)) owing told) idle) e ∙ ap (λ z. cond {A = SpmState} x (cond {A = SpmState} z owing told) idle) f

-- ---- the panic that is owed

panic-is : (s : System) (b : SpmState) (owing : Option ActorId) (n : ℕ) (x : Bool) → option_map (λ (p : ActorId). p.0) owing ≡ (if x then Some n else None) → (if x then panic_effect s b n else b) ≡ once_panicked s b owing
panic-is s b None n false e = refl
panic-is s b None n true e = cc
panic-is s b (Some p) n false e = cc
panic-is s b (Some p) n true e = let same : n ≡ p.0 = cc in ap (panic_effect s b) same

pub reply-due : (s : System) (d new : TablesView) (given : List Handle) (bytes after : List Bytes) (a : ℕ) (k : Handle) (status : ℤ) (t : Slot) (m : QueuedMessage) (owing : Option ActorId)
    → IsReplied s d new a k status t m owing
    → byte_at after ≡ (if int_lt m.kind PSA_IPC_CALL then byte_at bytes else lengths_written (byte_at bytes) m.vectors.out_vec (take m.vectors.out_len m.vectors.output))
    → psa_reply s (state_with d given (byte_at bytes)) a k status ≡ Some (effect Done (record { spm = once_panicked s (spm_of new) owing; handles_given = given; memory = byte_at after }))
reply-due s d new given bytes after a k status t m owing it lengths =
    let n : PendingMessage = message_of t m in
    let due : SpmState → (ℕ → ℕ) → Option Effect = λ b x. Some (effect Done (record { spm = b; handles_given = given; memory = x })) in
    let told : ℕ → ℕ = if int_lt m.kind PSA_IPC_CALL then byte_at bytes else lengths_written (byte_at bytes) m.vectors.out_vec (take m.vectors.out_len m.vectors.output) in
    ap (option_map (reply_of s (state_with d given (byte_at bytes)) k status)) it.found
    ∙ ap (λ (b : SpmState). due (if owes_panic s n status then panic_effect s b m.client.0 else b) told) (sym it.state)
    ∙ ap (λ (b : SpmState). due b told) (panic-is s (spm_of new) owing m.client.0 (owes_panic s n status) it.owes)
    ∙ ap (due (once_panicked s (spm_of new) owing)) (sym lengths)

-- once it runs, the partition that owes the panic is as one that was told
running-told : (s : System) (b : SpmState) (h : Handle) (status : ℤ) (m : PendingMessage) → owes_panic s m status ≡ true
    → with_phase (replied s b h status m) m.client.0 Running ≡ with_phase (settled b h status m) m.client.0 Running
running-told s b h status m =
    owed-same s b h status m (λ x. with_phase x m.client.0 Running) (λ x p. ap (λ (ps : List ActorPhase). record x { phases = ps }) (sym (set-twice x.phases m.client.0 p Running)))

-- and its objects fit then
pub owed-running : (s : System) (b : SpmState) (a : ℕ) (h : Handle) (status : ℤ) (m : PendingMessage) → ObjectsFit s b → message_held s b a h ≡ Some m → owes_panic s m status ≡ true
    → ObjectsFit s (with_phase (replied s b h status m) m.client.0 Running)
owed-running s b a h status m fit held e =
    let told : SpmState = settled b h status m in
    let balanced : Balanced s one b = fit-balanced s b fit in
    let kept : Balanced s one told = settled-keeps s one b a h status m balanced held in
    let woken : Balanced s one (with_phase told m.client.0 Running) =
    owed-request s m status _ e
    (λ n kind.
    let ready = request-ready s one b a h status m n balanced held kind in
    phased-keeps s one told m.client.0 Running kept (is_there told.phases m.client.0 (λ x. let it : phase_of told m.client.0 ≡ Ready ready.0 = ready.1 in cc))
    (λ k. ap (λ q. is_joining q k) ready.1) (λ k. refl)
    (ready-quiet (phase_of told m.client.0) ready.0 _ _ (λ k. count_by (accepted_as m.client.0 k) told.connections) ready.1 (kept.fitting m.client.0))) in
    subst (ObjectsFit s) (sym (running-told s b h status m e)) (balanced-fit s one _ woken)

pub owing-fits : (s : System) (d new : TablesView) (a : ℕ) (k : Handle) (status : ℤ) (t : Slot) (m : QueuedMessage) (owing : Option ActorId) → ObjectsFit s (spm_of d) → IsReplied s d new a k status t m owing
    → IfSome owing (λ p. ObjectsFit s (with_phase (spm_of new) p.0 Running))
owing-fits s d new a k status t m owing fit it =
    let n : PendingMessage = message_of t m in
    let held : message_held s (spm_of d) a k ≡ Some n = reply_is s (spm_of d) a k status n it.found in
    let go : (o : Option ActorId) (x : Bool) → owes_panic s n status ≡ x → option_map (λ (p : ActorId). p.0) o ≡ (if x then Some m.client.0 else None)
    → IfSome o (λ p. ObjectsFit s (with_phase (spm_of new) p.0 Running)) =
    elim [
      | None ↦ λ x e f. tt
      | Some p ↦ elim [
        | false ↦ λ e f. cc
        | true ↦ λ e f.
            let same : m.client.0 ≡ p.0 = cc in
            subst (λ (b : SpmState). ObjectsFit s (with_phase b p.0 Running)) (sym it.state)
            (subst (λ (i : ℕ). ObjectsFit s (with_phase (replied s (spm_of d) k status n) i Running)) same (owed-running s (spm_of d) a k status n fit held e))
      ]
    ] in
    go owing (owes_panic s n status) refl it.owes

pub settled-fits : (s : System) (d new : TablesView) (a : ℕ) (k : Handle) (status : ℤ) (t : Slot) (m : QueuedMessage) (owing : Option ActorId) → ObjectsFit s (spm_of d) → IsReplied s d new a k status t m owing
    → owing ≡ None → ObjectsFit s (spm_of new)
settled-fits s d new a k status t m owing fit it none =
    let n : PendingMessage = message_of t m in
    let held : message_held s (spm_of d) a k ≡ Some n = reply_is s (spm_of d) a k status n it.found in
    let go : (x : Bool) → owes_panic s n status ≡ x → None ≡ (if x then Some m.client.0 else None) → ObjectsFit s (spm_of new) = elim [
      | true ↦ λ e f. cc
      | false ↦ λ e f. subst (λ (b : SpmState). ObjectsFit s b) (sym it.state) (reply-fits s (spm_of d) a k status n fit held e)
    ] in
    go (owes_panic s n status) refl (ap (option_map (λ (p : ActorId). p.0)) (sym none) ∙ it.owes)
