-- What the machine answers to a partition's own calls.
use Rattle.std.proofs.Common.{ℕ, ◌<◌, ◌≤◌, ◌≡◌, ◌==◌, ◌^◌, List, [], ◌∷◌, length, refl, ap, ap₂, sym, ◌∙◌, subst, arith, Bool, true, false, eqb-true, inl, inr}
use Rattle.std.specs.Prelude.{ℤ, pos, negsuc, Option, Some, None, if◌then◌else◌, ◌&&◌, ◌||◌, find, nat_lt, bit_and, int_le, nat_le, ◌⊎◌}
use Rattle.std.specs.List.{list_any}
use Rattle.std.specs.Option.{option_map}
use Rattle.std.specs.Int.{w32, cast_signed, cast_unsigned}
use Rattle.std.proofs.lemmas.Int.{to_z_pos}
use Rattle.std.proofs.lemmas.Bool.{and_parts, not-true}
use Rattle.std.proofs.lemmas.Bool.Decides.{nat_tests}
use Rattle.ffm_model.specs.declared.constants.TheConstants.{PSA_BLOCK}
use Rattle.ffm_model.specs.declared.system.System.{System}
use Rattle.ffm_model.specs.declared.system.ActorKind.{ActorKind}
use Rattle.ffm_model.specs.declared.system.ActorKind.TheVariants.{Partition}
use Rattle.ffm_model.specs.declared.machine.Handle.{Handle}
use Rattle.ffm_model.specs.declared.machine.Status.{Status}
use Rattle.ffm_model.specs.declared.machine.Message.{Message}
use Rattle.ffm_model.specs.declared.machine.Call.TheVariants as call
use Rattle.ffm_model.specs.declared.machine.Outcome.{Outcome}
use Rattle.ffm_model.specs.declared.machine.Outcome.TheVariants as outcome
use Rattle.ffm_model.specs.declared.objects.PendingMessage.{PendingMessage}
use Rattle.ffm_model.specs.declared.objects.ActorPhase.{ActorPhase}
use Rattle.ffm_model.specs.declared.objects.ActorPhase.TheVariants.{Running, Waiting}
use Rattle.ffm_model.specs.Actors.{kind_of}
use Rattle.ffm_model.specs.Memory.{valid_buffer}
use Rattle.ffm_model.specs.State.{SpmState, State, phase_of, with_phase, fresh, is_undelivered}
use Rattle.ffm_model.specs.Signals.{enabled, can_go_on, signals_of, assigned_to, has_signal_of, has_undelivered}
use Rattle.ffm_model.specs.ClientCalls.{Effect, move, in_state, returned}
use Rattle.ffm_model.specs.ServiceCalls.{get_of, message_size, service_of_signal, reply_of, reply_to, shown_message}
use Rattle.ffm_model.specs.Calls.{has_call, effect_or_error, effect_of}
use Rattle.ffm_model.specs.Step.{may_call, returns_when_due, handle_shown, outcome_eq}
use Rattle.law_counting.proofs.Parts.{is_there, phase_same}
use Rattle.law_counting.proofs.Events.{caller-running}
use Rattle.sfn_calls.specs.Answers.{IsHandle}
use Rattle.law_counting.proofs.Outcomes.{done-is, panicked-is}
use Rattle.law_counting.proofs.OwnSteps.{Own, get-due, get-fresh}
use Rattle.law_counting.proofs.Owners.{is-partition}

-- ---- outcomes that are told apart

blocked-is : (o : Outcome) → outcome_eq outcome.Blocked o ≡ true → o ≡ outcome.Blocked
blocked-is outcome.Blocked e = refl
blocked-is _ e = cc

signals-is : (n : ℕ) (o : Outcome) → outcome_eq (outcome.Signals n) o ≡ true → o ≡ outcome.Signals n
signals-is n (outcome.Signals m) e = ap outcome.Signals (sym (eqb-true n m e))
signals-is n _ e = cc

got-is : (m : Message) (o : Outcome) → outcome_eq (outcome.Got m) o ≡ true → (k : Message) × (o ≡ outcome.Got k)
got-is m (outcome.Got k) e = (k, refl)
got-is m _ e = cc

-- ---- psa_wait

wait-choice : System → State → ℕ → ℕ → ℕ → Handle → ActorKind → Bool → Bool → Effect
wait-choice s st a mask timeout h k has polls =
    effect_or_error (if has_call k (call.Wait mask timeout) then option_map (in_state st) (if has then Some (if polls then move (outcome.Signals (bit_and (signals_of s st.spm a) mask)) st.spm else move outcome.Blocked (with_phase st.spm a (Waiting mask))) else None) else None)
    k s st a (call.Wait mask timeout)

wait-is : (s : System) (st : State) (a mask timeout : ℕ) (h : Handle)
    → effect_of s st a (call.Wait mask timeout) h ≡ wait-choice s st a mask timeout h (kind_of s a) (has_signal_of (assigned_to s a) mask) (nat_lt timeout PSA_BLOCK)
unfolding wait-choice
wait-is s st a mask timeout h = refl

running-at : (s : System) (st : State) (a mask timeout : ℕ) → may_call s st.spm a (call.Wait mask timeout) ≡ true → phase_of st.spm a ≡ Running
running-at s st a mask timeout may = caller-running s st.spm a (call.Wait mask timeout) (λ p. refl) may

now-waits : (b : SpmState) (a mask : ℕ) → phase_of b a ≡ Running → phase_of (with_phase b a (Waiting mask)) a ≡ Waiting mask
now-waits b a mask running = phase_same b.phases a (Waiting mask) (is_there b.phases a (λ e. cc))

-- where it is answered Blocked, the partition waits for the mask
wait-by : (s : System) (st new : State) (a mask timeout : ℕ) (h : Handle) (has polls : Bool) (o : Outcome) → outcome_eq (wait-choice s st a mask timeout h Partition has polls).outcome o ≡ true
    → (wait-choice s st a mask timeout h Partition has polls).state ≡ new → o ≡ outcome.Blocked → phase_of st.spm a ≡ Running → phase_of new.spm a ≡ Waiting mask
unfolding wait-choice
wait-by s st new a mask timeout h true false o e f is running = subst (λ (x : State). phase_of x.spm a ≡ Waiting mask) f (now-waits st.spm a mask running)
wait-by s st new a mask timeout h true true o e f is running = let bad : outcome_eq (outcome.Signals (bit_and (signals_of s st.spm a) mask)) outcome.Blocked ≡ true = subst (λ (x : Outcome). outcome_eq (outcome.Signals (bit_and (signals_of s st.spm a) mask)) x ≡ true) is e in cc
wait-by s st new a mask timeout h false polls o e f is running = let bad : outcome_eq outcome.Panicked outcome.Blocked ≡ true = subst (λ (x : Outcome). outcome_eq outcome.Panicked x ≡ true) is e in cc

pub waits-for : (s : System) (st new : State) (a mask timeout : ℕ) (o : Outcome) → a < length s.partitions → Own s st new a (call.Wait mask timeout) o → o ≡ outcome.Blocked → phase_of new.spm a ≡ Waiting mask
waits-for s st new a mask timeout o inside own is =
    let h = handle_shown o in
    let all : effect_of s st a (call.Wait mask timeout) h ≡ wait-choice s st a mask timeout h Partition (has_signal_of (assigned_to s a) mask) (nat_lt timeout PSA_BLOCK) =
    wait-is s st a mask timeout h ∙ ap (λ (k : ActorKind). wait-choice s st a mask timeout h k (has_signal_of (assigned_to s a) mask) (nat_lt timeout PSA_BLOCK)) (is-partition s a inside) in
    wait-by s st new a mask timeout h (has_signal_of (assigned_to s a) mask) (nat_lt timeout PSA_BLOCK) o (subst (λ (x : Effect). outcome_eq x.outcome o ≡ true) all own.outcome)
    (subst (λ (x : Effect). x.state ≡ new) all own.state) is (running-at s st a mask timeout own.may)

-- for signals that it has, psa_wait blocks
pub wait-blocks : (s : System) (st new : State) (a mask : ℕ) (o : Outcome) → a < length s.partitions → has_signal_of (assigned_to s a) mask ≡ true → Own s st new a (call.Wait mask PSA_BLOCK) o → o ≡ outcome.Blocked
unfolding wait-choice
wait-blocks s st new a mask o inside has own =
    let h = handle_shown o in
    let all : effect_of s st a (call.Wait mask PSA_BLOCK) h ≡ wait-choice s st a mask PSA_BLOCK h Partition true (nat_lt PSA_BLOCK PSA_BLOCK) =
    wait-is s st a mask PSA_BLOCK h ∙ ap₂ (λ (k : ActorKind) (b : Bool). wait-choice s st a mask PSA_BLOCK h k b (nat_lt PSA_BLOCK PSA_BLOCK)) (is-partition s a inside) has in
    blocked-is o (subst (λ (x : Effect). outcome_eq x.outcome o ≡ true) all own.outcome)

-- ---- the return of psa_wait

resume-choice : System → State → ℕ → Handle → ActorKind → ActorPhase → Effect
resume-choice s st a h k p = effect_or_error (if has_call k call.Resume then Some (returned s st a p h) else None) k s st a call.Resume

resume-is : (s : System) (st : State) (a : ℕ) (h : Handle) → effect_of s st a call.Resume h ≡ resume-choice s st a h (kind_of s a) (phase_of st.spm a)
unfolding resume-choice
resume-is s st a h = refl

-- what a return from Waiting gives
pub record Woken (s : System) (st new : State) (a mask : ℕ) (o : Outcome) : Type 0 where
  pub shown : o ≡ outcome.Signals (bit_and (signals_of s st.spm a) mask)
  pub asserted : (bit_and (signals_of s st.spm a) mask == 0) ≡ false
  pub spm : new.spm ≡ with_phase st.spm a Running

pub wakes : (s : System) (st new : State) (a mask : ℕ) (o : Outcome) → a < length s.partitions → phase_of st.spm a ≡ Waiting mask → Own s st new a call.Resume o → Woken s st new a mask o
unfolding resume-choice
wakes s st new a mask o inside waits own =
    let h = handle_shown o in
    let all : effect_of s st a call.Resume h ≡ resume-choice s st a h Partition (Waiting mask) =
    resume-is s st a h ∙ ap₂ (resume-choice s st a h) (is-partition s a inside) waits in
    let able = and_parts (enabled s st.spm a) (returns_when_due call.Resume (phase_of st.spm a)) (and_parts _ _ own.may).1 in
    let met : has_signal_of (signals_of s st.spm a) mask ≡ true = sym (ap (λ (p : ActorPhase). can_go_on p (signals_of s st.spm a)) waits) ∙ able.0 in
    record {
      shown = signals-is (bit_and (signals_of s st.spm a) mask) o (subst (λ (x : Effect). outcome_eq x.outcome o ≡ true) all own.outcome);
      asserted = not-true (bit_and (signals_of s st.spm a) mask == 0) met;
      spm = sym (ap (λ (x : State). x.spm) (subst (λ (x : Effect). x.state ≡ new) all own.state));
    }

pub now-running : (b : SpmState) (a mask : ℕ) → phase_of b a ≡ Waiting mask → phase_of (with_phase b a Running) a ≡ Running
now-running b a mask waits = phase_same b.phases a Running (is_there b.phases a (λ e. cc))

-- ---- psa_get

find-by : (b : Bool) (m : PendingMessage) (o : Option PendingMessage) (some : Bool) → (b || some) ≡ true → (some ≡ true → (k : PendingMessage) × (o ≡ Some k)) → (k : PendingMessage) × ((if b then Some m else o) ≡ Some k)
find-by true m o some e go = (m, refl)
find-by false m o some e go = go e

find-any : (v : ℕ) (ms : List PendingMessage) → list_any (is_undelivered v) ms ≡ true → (m : PendingMessage) × (find (is_undelivered v) ms ≡ Some m)
find-any v [] e = cc
find-any v (m ∷ ms) e = find-by (is_undelivered v m) m (find (is_undelivered v) ms) (list_any (is_undelivered v) ms) e (find-any v ms)

small-handle : (z : ℤ) → (int_le (pos 1) z && int_le z (pos 0x3fffffff)) ≡ true → cast_signed w32 (cast_unsigned w32 z) ≡ z
small-handle (pos n) e =
    let high : nat_le n 0x3fffffff ≡ true = (and_parts (int_le (pos 1) (pos n)) (int_le (pos n) (pos 0x3fffffff)) e).1 in
    let low : n ≤ 0x3fffffff = grind (arith, nat_tests) in
    let fits : n < 2 ^ 31 = omega arith in
    to_z_pos w32 n fits
small-handle (negsuc n) e = cc

-- what a psa_get that isn't an error gives
pub record Delivered (o : Outcome) : Type 0 where
  pub message : Message
  pub shown : o ≡ outcome.Got message
  pub handle : IsHandle message.handle

pub gets-message : (s : System) (st new : State) (a signal msg v : ℕ) (o : Outcome) → a < length s.partitions → Own s st new a (call.Get signal msg) o → service_of_signal s a signal ≡ Some v
    → has_undelivered st.spm v ≡ true → valid_buffer s a msg message_size ≡ true → Delivered o
gets-message s st new a signal msg v o inside own found waits room =
    let first = find-any v st.spm.messages waits in
    let h : Handle = handle_shown o in
    let all : effect_of s st a (call.Get signal msg) h ≡ get_of s st v msg h first.0 =
    ap (λ (x : Option Effect). effect_or_error x (kind_of s a) s st a (call.Get signal msg)) (get-due s st a signal msg v first.0 h (is-partition s a inside) found first.1 room) in
    let it = got-is (shown_message s st.spm first.0 h) o (subst (λ (x : Effect). outcome_eq x.outcome o ≡ true) all own.outcome) in
    let new_one : fresh st h ≡ true = get-fresh s st a signal msg v first.0 h (is-partition s a inside) found first.1 room own.allowed in
    let shown : h ≡ it.0.handle = ap handle_shown it.1 in
    let range = and_parts (int_le (pos 1) h.0 && int_le h.0 (pos 0x3fffffff)) _ new_one in
    record {
      message = it.0;
      shown = it.1;
      handle = subst (λ (x : Handle). IsHandle x) shown (small-handle h.0 range.0);
    }

-- ---- psa_reply

reply-choice : System → State → ℕ → Handle → Status → ActorKind → Option PendingMessage → Effect
reply-choice s st a k status kind to = effect_or_error (if has_call kind (call.Reply k status) then option_map (reply_of s st k status.0) to else None) kind s st a (call.Reply k status)

reply-is : (s : System) (st : State) (a : ℕ) (k : Handle) (status : Status) (h : Handle)
    → effect_of s st a (call.Reply k status) h ≡ reply-choice s st a k status (kind_of s a) (reply_to s st.spm a k status.0)
unfolding reply-choice
reply-is s st a k status h = refl

reply-by : (s : System) (st : State) (a : ℕ) (k : Handle) (status : Status) (to : Option PendingMessage) (o : Outcome) → outcome_eq (reply-choice s st a k status Partition to).outcome o ≡ true
    → (o ≡ outcome.Done) ⊎ (o ≡ outcome.Panicked)
unfolding reply-choice
reply-by s st a k status None o e = inr (panicked-is o e)
reply-by s st a k status (Some m) o e = inl (done-is o e)

pub reply-quiet : (s : System) (st new : State) (a : ℕ) (k : Handle) (status : Status) (o : Outcome) → a < length s.partitions → Own s st new a (call.Reply k status) o
    → (o ≡ outcome.Done) ⊎ (o ≡ outcome.Panicked)
reply-quiet s st new a k status o inside own =
    let all : effect_of s st a (call.Reply k status) (handle_shown o) ≡ reply-choice s st a k status Partition (reply_to s st.spm a k status.0) =
    reply-is s st a k status (handle_shown o) ∙ ap (λ (x : ActorKind). reply-choice s st a k status x (reply_to s st.spm a k status.0)) (is-partition s a inside) in
    reply-by s st a k status (reply_to s st.spm a k status.0) o (subst (λ (x : Effect). outcome_eq x.outcome o ≡ true) all own.outcome)
