-- The machine of a system takes the same steps where priorities are others, and judges traces alike.
use Rattle.std.proofs.Common.{ℕ, ◌≡◌, ◌+◌, ◌-◌, ◌*◌, ◌==◌, ◌&&◌, ◌||◌, not, Bool, true, false, List, [], ◌∷◌, ◌++◌, length, refl, ap, ap₂, ◌∙◌}
use Rattle.std.specs.Prelude.{ℤ, pos, find, int_le, int_lt, is_none, is_some, Option, Some, None, fold, nat_lt, nat_le, option_and_then, if◌then◌else◌}
use Rattle.std.specs.List.{list_all, list_any, range_with_len}
use Rattle.std.specs.Ordering.{int_eq}
use mathlib.Core.Path.{fun_ext}
use Rattle.std.specs.Option.{option_map, option_map_or}
use Rattle.ffm_model.specs.declared.constants.TheConstants.{PSA_MAX_IOVEC, PSA_IPC_CALL, PSA_IPC_CONNECT, PSA_ERROR_PROGRAMMER_ERROR}
use Rattle.ffm_model.specs.declared.machine.Call.{Call}
use Rattle.ffm_model.specs.declared.machine.Call.TheVariants as call
use Rattle.ffm_model.specs.declared.machine.Entry.{Entry}
use Rattle.ffm_model.specs.declared.machine.Handle.{Handle}
use Rattle.ffm_model.specs.declared.machine.Message.{Message}
use Rattle.ffm_model.specs.declared.machine.Outcome.TheVariants.{Value, Number, Got, Done}
use Rattle.ffm_model.specs.declared.machine.Verdict.{Verdict}
use Rattle.ffm_model.specs.declared.machine.Verdict.TheVariants.{Quiet, Stalled, Full}
use Rattle.ffm_model.specs.declared.system.ActorKind.{ActorKind}
use Rattle.ffm_model.specs.declared.system.ActorKind.TheVariants.{Partition, Client, Device}
use Rattle.ffm_model.specs.declared.system.Class.{Class}
use Rattle.ffm_model.specs.declared.system.Class.TheVariants.{Ram, NonSecure, Mmio}
use Rattle.ffm_model.specs.declared.objects.ActorPhase.TheVariants.{Ready}
use Rattle.ffm_model.specs.declared.objects.ConnPhase.TheVariants.{Error, Idle}
use Rattle.ffm_model.specs.declared.objects.PendingMessage.{PendingMessage}
use Rattle.ffm_model.specs.declared.objects.Vectors.{Vectors}
use Rattle.ffm_model.specs.declared.system.Partition.{Partition as Part}
use Rattle.ffm_model.specs.declared.system.System.{System}
use Rattle.ffm_model.specs.Accesses.{is_access_size}
use Rattle.ffm_model.specs.Actors.{actor_count, client_id_of, id_of_kind, is_client, is_partition, kind_of, permits, stateless_at, stateless_index}
use Rattle.ffm_model.specs.Calls.{call_case, case_of, effect_of, effect_or_error, has_call, programmer_error}
use Rattle.ffm_model.specs.ClientCalls.{Effect, call_on, call_to, effect, in_state, move, refuses_requests}
use Rattle.ffm_model.specs.Memory.{ByteMap, domain_of, is_mmio_of, is_ram_of, is_writable_mmio_of, lengths_written, lies_in, load_number, store_number, valid_buffer, vectors_of, vectors_read, words_stored}
use Rattle.ffm_model.specs.Names.{NamedState, NamesSoFar, capacity, first_named, message_capacity, name_due, named_step_on, names, no_names, slots_kept, stays, with_connection, with_messages}
use Rattle.ffm_model.specs.Panic.{panic_effect}
use Rattle.ffm_model.specs.ServiceCalls.{close_answered, connect_answered, get_of, message_size, message_words, output_at, outputs_given, owes_panic, psa_get, psa_reply, read_of, replied, reply_of, reply_to, request_failed, request_held, rest_of, service_of_signal, shown_message, sizes_of, with_request_phase, write_of}
use Rattle.ffm_model.specs.SignalCalls.{place_of_id, with_doorbell}
use Rattle.ffm_model.specs.Signals.{enabled, is_blocked}
use Rattle.ffm_model.specs.State.{SpmState, State, connection_by_serial, connection_held, delivered, fresh, handle_eq, is_undelivered, opening, phase_of, with_phase, without_message}
use Rattle.ffm_model.specs.Step.{after, gives_handle, handle_shown, outcome_eq, returns_when_due, step, step_on}
use Rattle.ffm_model.specs.Verdicts.{Judgement, IllegalAt, Legal, judged_from, verdict_at, verdict_eq, verdict_of}
use Rattle.law_scenarios.specs.Priorities.{DoFit, JudgeAlike, aside, with_partitions}
use Rattle.law_scenarios.proofs.Fields.{count-same, made-same}

-- what a fold does with steps that are alike
fold-alike : {X : Type 0} (f g : X → Entry → X) → ((x : X) (e : Entry) → f x e ≡ g x e) → (x : X) (es : List Entry) → fold f x es ≡ fold g x es
fold-alike f g alike x [] = refl
fold-alike {X} f g alike x (e ∷ es) = fold-alike f g alike (f x e) es ∙ ap (λ (y : X). fold g y es) (alike x e)

module _ (s : System) (qs : List Part) (fits : DoFit s qs) (same : aside qs ≡ aside s.partitions) where
  abbrev other : System
  other = with_partitions s qs fits

  count : length qs ≡ length s.partitions
  count = count-same s.partitions qs same

  domain : (a : ℕ) → domain_of other a ≡ domain_of s a
  domain a = made-same s.partitions qs same (λ (q : Part). q.domain) 0 (λ p. refl) a

  pub kind-same : (a : ℕ) → kind_of other a ≡ kind_of s a
  kind-same a = let n = count in rw n

  pub actors-same : actor_count other ≡ actor_count s
  actors-same = let n = count in rw n

  -- ---- buffers

  ram-same : (a : ℕ) (c : Class) → is_ram_of other a c ≡ is_ram_of s a c
  ram-same a (Ram d) = ap₂ (λ (kind : ActorKind) (n : ℕ). is_partition kind && (d == n)) (kind-same a) (domain a)
  ram-same a NonSecure = ap is_client (kind-same a)
  ram-same a (Mmio owner writable) = refl

  buffer-same : (a base len : ℕ) → valid_buffer other a base len ≡ valid_buffer s a base len
  buffer-same a base len = ap (λ (ram : Class → Bool). (len == 0) || list_any (λ r. ram r.class && lies_in base len r) s.regions) (fun_ext (ram-same a))

  vectors-same : (m : ByteMap) (a iv il ov ol : ℕ) → vectors_of other m a iv il ov ol ≡ vectors_of s m a iv il ov ol
  vectors-same m a iv il ov ol =
      let valid : (λ (base len : ℕ). valid_buffer other a base len) ≡ (λ (base len : ℕ). valid_buffer s a base len) = fun_ext (λ base. fun_ext (λ len. buffer-same a base len)) in
      ap (λ (valid : ℕ → ℕ → Bool).
      let inputs = vectors_read m iv il in
      let outputs = vectors_read m ov ol in
      if nat_le (il + ol) PSA_MAX_IOVEC && (valid iv (8 * il) && valid ov (8 * ol)) && (list_all (λ v. valid v.base v.len) inputs && list_all (λ v. valid v.base v.len) outputs)
      then Some (record { input = inputs; output = outputs; out_vec = ov; out_len = ol })
      else None) valid

  -- ---- messages

  client-same : (a : ℕ) → client_id_of other a ≡ client_id_of s a
  client-same a = ap₂ (λ (kind : ActorKind) (n : ℕ). id_of_kind kind n a) (kind-same a) count

  shown-same : (b : SpmState) (m : PendingMessage) (k : Handle) → shown_message other b m k ≡ shown_message s b m k
  shown-same b m k =
      let made : ℤ → Message = λ id. record {
        kind = m.kind;
        handle = k;
        client_id = id;
        rhandle = (if int_eq m.kind PSA_IPC_CONNECT then 0 else option_map_or (λ c. c.rhandle) (option_and_then (connection_by_serial b) m.connection) 0);
        in_size = sizes_of m.vectors.input;
        out_size = sizes_of m.vectors.output;
      } in
      ap made (client-same m.client.0)

  got-same : (st : State) (service msg : ℕ) (k : Handle) (m : PendingMessage) → get_of other st service msg k m ≡ get_of s st service msg k m
  got-same st service msg k m =
      let made : Message → Effect = λ shown. effect (Got shown) (record {
        spm = record st.spm { messages = delivered service k st.spm.messages };
        handles_given = st.handles_given ++ k ∷ [];
        memory = words_stored st.memory msg (message_words shown);
      }) in
      ap made (shown-same st.spm m k)

  get-same : (st : State) (a signal msg : ℕ) (k : Handle) → psa_get other st a signal msg k ≡ psa_get s st a signal msg k
  get-same st a signal msg k =
      let made : Bool → (ℕ → PendingMessage → Effect) → Option Effect = λ valid got.
      option_and_then (λ service. option_and_then (λ message. if valid then Some (got service message) else None) (find (is_undelivered service) st.spm.messages)) (service_of_signal s a signal) in
      ap₂ made (buffer-same a msg message_size) (fun_ext (λ service. fun_ext (λ m. got-same st service msg k m)))

  -- ---- answers

  failed-same : (b : SpmState) (m : PendingMessage) → request_failed other b m ≡ request_failed s b m
  failed-same b m =
      let failed : SpmState = with_request_phase b m Error in
      ap (λ (kind : ActorKind). if is_partition kind then failed else with_phase failed m.client.0 (Ready (Value PSA_ERROR_PROGRAMMER_ERROR))) (kind-same m.client.0)

  replied-same : (b : SpmState) (k : Handle) (status : ℤ) (m : PendingMessage) → replied other b k status m ≡ replied s b k status m
  replied-same b k status m =
      let left : SpmState = without_message b k in
      ap (λ (failed : SpmState).
      if int_eq m.kind PSA_IPC_CONNECT then option_map_or (λ n. connect_answered left n m status) m.connection left
      else (if int_lt m.kind PSA_IPC_CALL then option_map_or (λ n. close_answered left n m) m.connection left
      else (if int_eq status PSA_ERROR_PROGRAMMER_ERROR then failed else with_phase (with_request_phase left m Idle) m.client.0 (Ready (Value status))))) (failed-same left m)

  owes-same : (m : PendingMessage) (status : ℤ) → owes_panic other m status ≡ owes_panic s m status
  owes-same m status = ap (λ (kind : ActorKind). int_le PSA_IPC_CALL m.kind && (int_eq status PSA_ERROR_PROGRAMMER_ERROR && is_partition kind)) (kind-same m.client.0)

  answer-same : (st : State) (k : Handle) (status : ℤ) (m : PendingMessage) → reply_of other st k status m ≡ reply_of s st k status m
  answer-same st k status m =
      let made : Bool → SpmState → Effect = λ owes b. effect Done (record st {
        spm = if owes then panic_effect s b m.client.0 else b;
        memory = if int_lt m.kind PSA_IPC_CALL then st.memory else lengths_written st.memory m.vectors.out_vec (outputs_given m);
      }) in
      ap₂ made (owes-same m status) (replied-same st.spm k status m)

  reply-same : (st : State) (a : ℕ) (k : Handle) (status : ℤ) → psa_reply other st a k status ≡ psa_reply s st a k status
  reply-same st a k status = ap (λ (f : PendingMessage → Effect). option_map f (reply_to s st.spm a k status)) (fun_ext (answer-same st k status))

  -- ---- each call

  pub case-same : (st : State) (a : ℕ) (c : Call) (k : Handle) → call_case other st a c k ≡ call_case s st a c k
  case-same st a (call.Invoke n kind iv il ov ol) k =
      ap (λ (vs : Option Vectors). option_map (in_state st) (option_map_or
      (λ index. option_and_then (λ service. option_and_then (λ v. if permits s a service && not (int_lt kind (pos 0)) then Some (call_to s st.spm a service kind v) else None) vs) (stateless_at s index))
      (stateless_index n)
      (option_and_then (λ c. option_and_then (λ v. if refuses_requests c.phase || int_lt kind (pos 0) then None else Some (call_on st.spm a c kind v)) vs) (connection_held st.spm a n))))
      (vectors-same st.memory a iv il ov ol)
  case-same st a (call.Get signal msg) k = get-same st a signal msg k
  case-same st a (call.Read n index buffer len) k =
      ap (λ (valid : Bool). option_and_then (λ request. if valid then Some (read_of st n index buffer len request) else None) (request_held s st.spm a n index)) (buffer-same a buffer len)
  case-same st a (call.Write n index buffer len) k =
      ap (λ (valid : Bool). option_and_then (λ request. if valid && nat_le len (rest_of (output_at request index)) then Some (write_of st n index buffer len request) else None) (request_held s st.spm a n index)) (buffer-same a buffer len)
  case-same st a (call.Reply n status) k = reply-same st a n status.0
  case-same st a (call.Notify id) k =
      ap (λ (n : ℕ). option_map (in_state st) (if int_le (pos 1) id && int_le id (pos n) then Some (move Done (with_doorbell st.spm (place_of_id id) true)) else None)) count
  case-same st a (call.Load at size) k =
      ap (λ (valid : Bool). if is_access_size size && (valid || list_any (λ r. is_mmio_of a r.class && lies_in at size r) s.regions) then Some (effect (Number (load_number st.memory at size)) st) else None) (buffer-same a at size)
  case-same st a (call.Store at size v) k =
      ap (λ (valid : Bool). if is_access_size size && (valid || list_any (λ r. is_writable_mmio_of a r.class && lies_in at size r) s.regions) then Some (effect Done (record st { memory = store_number st.memory at size v })) else None) (buffer-same a at size)
  case-same st a _ k = refl

  errors-same : (st : State) (a : ℕ) (c : Call) (o : Option Effect) (kind : ActorKind) → effect_or_error o kind other st a c ≡ effect_or_error o kind s st a c
  errors-same st a c (Some e) kind = refl
  errors-same st a c None Partition = refl
  errors-same st a c None Client = refl
  errors-same st a c None Device = refl

  effect-same : (st : State) (a : ℕ) (c : Call) (k : Handle) → effect_of other st a c k ≡ effect_of s st a c k
  effect-same st a c k =
      ap (λ (kind : ActorKind). effect_or_error (if has_call kind c then call_case other st a c k else None) kind other st a c) (kind-same a)
      ∙ ap (λ (o : Option Effect). effect_or_error (if has_call (kind_of s a) c then o else None) (kind_of s a) other st a c) (case-same st a c k)
      ∙ errors-same st a c (case_of s st a c k) (kind_of s a)

  error-same : (st : State) (a : ℕ) (c : Call) → programmer_error other st a c ≡ programmer_error s st a c
  error-same st a c =
      let zero_handle : Handle = record { 0 = pos 0 } in
      ap (λ (kind : ActorKind). is_none (if has_call kind c then call_case other st a c zero_handle else None)) (kind-same a)
      ∙ ap (λ (o : Option Effect). is_none (if has_call (kind_of s a) c then o else None)) (case-same st a c zero_handle)

  pub step-same : (st : State) (e : Entry) → step other st e ≡ step s st e
  unfolding step
  step-same st e =
      let a : ℕ = e.actor.0 in
      let h : Handle = handle_shown e.outcome in
      let made : ℕ → Bool → Effect → Option State = λ n error due.
      if (nat_lt a n && (enabled s st.spm a && returns_when_due e.call (phase_of st.spm a))) && (error || (not (gives_handle (phase_of st.spm a) e.call) || fresh st h)) && outcome_eq due.outcome e.outcome then Some due.state else None in
      ap (λ (n : ℕ). made n (programmer_error other st a e.call) (effect_of other st a e.call h)) actors-same
      ∙ ap (λ (b : Bool). made (actor_count s) b (effect_of other st a e.call h)) (error-same st a e.call)
      ∙ ap (λ (due : Effect). made (actor_count s) (programmer_error s st a e.call) due) (effect-same st a e.call h)

  pub on-same : (o : Option State) (e : Entry) → step_on other o e ≡ step_on s o e
  on-same None e = refl
  on-same (Some st) e = step-same st e

  pub opening-same : (m : ByteMap) → opening other m ≡ opening s m
  opening-same m = let e = count in rw e

  pub after-same : (m : ByteMap) (es : List Entry) → after other m es ≡ after s m es
  after-same m es = fold-alike (step_on other) (step_on s) on-same (Some (opening other m)) es ∙ ap (λ (st : State). fold (step_on s) (Some st) es) (opening-same m)

  -- ---- names

  capacity-same : message_capacity other ≡ message_capacity s
  capacity-same = let e = count in rw e

  -- the names after an event, where so many messages have slots
  abbrev after_names : ℕ → SpmState → SpmState → NamesSoFar → NamesSoFar
  after_names n old new k =
      let kept = slots_kept (stays new.messages) old.messages k.messages in
      with_messages n (length new.messages - length kept) (with_connection (capacity s) old new (record k { messages = kept }))

  named-same : (o : Option NamedState) (e : Entry) → named_step_on other o e ≡ named_step_on s o e
  named-same None e = refl
  named-same (Some w) e =
      let a : ℕ = e.actor.0 in
      let due : Bool = option_map_or (handle_eq (handle_shown e.outcome)) (name_due s w.state a e.call w.names) true in
      let made : Bool → Option State → ℕ → Option NamedState = λ error o n.
      if error || due then option_map (λ new. record { state = new; names = after_names n w.state.spm new.spm w.names }) o else None in
      ap (λ (b : Bool). made b (step other w.state e) (message_capacity other)) (error-same w.state a e.call)
      ∙ ap (λ (o : Option State). made (programmer_error s w.state a e.call) o (message_capacity other)) (step-same w.state e)
      ∙ ap (λ (n : ℕ). made (programmer_error s w.state a e.call) (step s w.state e) n) capacity-same

  pub names-same : (m : ByteMap) (es : List Entry) → names other m es ≡ names s m es
  names-same m es =
      ap (λ (o : Option NamedState). is_some o) (fold-alike (named_step_on other) (named_step_on s) named-same (Some (first_named other m)) es
      ∙ ap (λ (st : State). fold (named_step_on s) (Some (record { state = st; names = no_names })) es) (opening-same m))

  -- ---- verdicts

  -- the verdict of so many actors
  abbrev ended : ℕ → ℕ → ℕ → SpmState → Option Verdict
  ended n limit taken b =
      if list_any (enabled s b) (range_with_len 0 n)
      then (if taken == limit then Some Full else None)
      else (if list_any (λ a. is_blocked (phase_of b a)) (range_with_len 0 n) then Some Stalled else Some Quiet)

  pub verdict-same : (m : ByteMap) (limit : ℕ) (es : List Entry) → verdict_of other m limit es ≡ verdict_of s m limit es
  verdict-same m limit es =
      ap (λ (o : Option State). option_and_then (λ st. verdict_at other limit (length es) st.spm) o) (after-same m es)
      ∙ ap (λ (n : ℕ). option_and_then (λ st. ended n limit (length es) st.spm) (after s m es)) actors-same

  judged-same : (limit : ℕ) (v : Verdict) (n : ℕ) (es : List Entry) (st : State) → judged_from other limit v n es st ≡ judged_from s limit v n es st
  judged-same limit v n [] st = ap (λ (k : ℕ). if option_map_or (verdict_eq v) (ended k limit n st.spm) false then Legal else IllegalAt (n + 1)) actors-same
  judged-same limit v n (e ∷ es) st =
      let go : (o : Option State) → option_map_or (λ new. judged_from other limit v (n + 1) es new) o (IllegalAt (n + 1)) ≡ option_map_or (λ new. judged_from s limit v (n + 1) es new) o (IllegalAt (n + 1)) =
      elim [ None ↦ refl | Some new ↦ judged-same limit v (n + 1) es new ] in
      let rest : option_map_or (λ new. judged_from other limit v (n + 1) es new) (step other st e) (IllegalAt (n + 1)) ≡ option_map_or (λ new. judged_from s limit v (n + 1) es new) (step s st e) (IllegalAt (n + 1)) =
      go (step other st e) ∙ ap (λ (o : Option State). option_map_or (λ new. judged_from s limit v (n + 1) es new) o (IllegalAt (n + 1))) (step-same st e) in
      ap (λ (j : Judgement). if nat_le limit n then IllegalAt (n + 1) else j) rest

pub judge_alike : (s : System) (partitions : List Part) → JudgeAlike s partitions
judge_alike s qs fits same m limit es v =
    judged-same s qs fits same limit v 0 es (opening (with_partitions s qs fits) m) ∙ ap (λ (st : State). judged_from s limit v 0 es st) (opening-same s qs fits same m)
