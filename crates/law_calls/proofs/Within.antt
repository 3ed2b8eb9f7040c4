-- The vectors of messages, through each call.
use Rattle.std.proofs.Common.{ℕ, ◌≡◌, ◌≤◌, ◌+◌, ◌*◌, Bool, true, false, cond, ◌&&◌, ◌||◌, not, List, [], ◌∷◌, ◌++◌, length, arith, ◌∙◌, sym, refl, subst, inl, inr}
use Rattle.std.specs.Prelude.{ℤ, pos, int_lt, nat_lt, nat_le, min, find, replicate, bit_and, All, Option, Some, None, IfSome, option_and_then, if◌then◌else◌, ◌==◌}
use Rattle.std.specs.List.{filter_map, cons_option, list_all}
use Rattle.std.specs.Option.{option_map, option_map_or, unwrap_or}
use Rattle.std.specs.Ordering.{int_eq}
use Rattle.std.proofs.lemmas.List.{length-append, length-set, length-take, set_past}
use Rattle.std.proofs.lemmas.List.Elements.{All-nil, All-cons, All-append, All-push, All-filter}
use Rattle.std.proofs.lemmas.Bool.Decides.{nat_tests}
use Rattle.std.proofs.lemmas.Bool.{and_parts, cases_lt}
use Rattle.law_lists.proofs.Bools.{if_passes, if_fails}
use Rattle.law_lists.proofs.Options.{each_made, each_mapped}
use Rattle.ffm_model.specs.declared.constants.TheConstants.{PSA_IPC_CALL, PSA_IPC_CONNECT, PSA_IPC_DISCONNECT, PSA_MAX_IOVEC, PSA_BLOCK, PSA_SUCCESS, PSA_NULL_HANDLE, PSA_ERROR_CONNECTION_REFUSED, PSA_ERROR_CONNECTION_BUSY, PSA_ERROR_COMMUNICATION_FAILURE, PSA_ERROR_PROGRAMMER_ERROR}
use Rattle.ffm_model.specs.declared.system.System.{System}
use Rattle.ffm_model.specs.declared.system.ActorKind.{ActorKind}
use Rattle.ffm_model.specs.declared.system.ActorKind.TheVariants.{Partition}
use Rattle.ffm_model.specs.declared.machine.Call.{Call}
use Rattle.ffm_model.specs.declared.machine.Call.TheVariants as call
use Rattle.ffm_model.specs.declared.machine.Entry.{Entry}
use Rattle.ffm_model.specs.declared.machine.Handle.{Handle}
use Rattle.ffm_model.specs.declared.machine.Outcome.{Outcome}
use Rattle.ffm_model.specs.declared.machine.Outcome.TheVariants as outcome
use Rattle.ffm_model.specs.declared.machine.Sid.{Sid}
use Rattle.ffm_model.specs.declared.objects.ActorPhase.{ActorPhase}
use Rattle.ffm_model.specs.declared.objects.ActorPhase.TheVariants.{Blocked, Ready, Waiting}
use Rattle.ffm_model.specs.declared.objects.ConnPhase.{ConnPhase}
use Rattle.ffm_model.specs.declared.objects.ConnPhase.TheVariants.{Idle, Busy, Error, Closing}
use Rattle.ffm_model.specs.declared.objects.SourceFlags.{SourceFlags}
use Rattle.ffm_model.specs.declared.objects.OpenConnection.{OpenConnection}
use Rattle.ffm_model.specs.declared.objects.PendingMessage.{PendingMessage}
use Rattle.ffm_model.specs.declared.objects.Span.{Span}
use Rattle.ffm_model.specs.declared.objects.Vectors.{Vectors}
use Rattle.ffm_model.specs.Actors.{is_stateless, permits, service_at, stateless_at, stateless_index, budget_of, is_service_of, kind_of, is_partition}
use Rattle.ffm_model.specs.Memory.{ByteMap, valid_buffer, no_span, spans_at, vectors_read, vectors_of, no_vectors}
use Rattle.ffm_model.specs.State.{State, SpmState, phase_of, has_handle, with_rhandle, in_use, connection_held, message_held, is_undelivered, with_vectors, with_message, with_request, with_phase, with_connection_phase, without_connection, without_message}
use Rattle.ffm_model.specs.Signals.{is_blocked, signals_of, assigned_to, has_signal_of}
use Rattle.ffm_model.specs.Panic.{is_dead, without_service, disconnection, panic_effect}
use Rattle.ffm_model.specs.ClientCalls.{Move, Effect, move, in_state, psa_connect, psa_call, psa_close, connection_called, service_called, call_to, connect_to, connect_issued, call_on, close_on, is_service_panicked, refuses_requests, is_busy, takes_version, returned}
use Rattle.ffm_model.specs.ServiceCalls.{psa_wait, psa_get, psa_set_rhandle, psa_skip, psa_read, psa_write, psa_reply, request_held, service_of_signal, message_size, get_of, skip_of, read_of, write_of, reply_of, rest_of, input_at, output_at, input_moved, connect_answered, close_answered, request_failed, request_answered, answered, with_request_phase, replied, owes_panic, reply_to, input_of, output_of, with_input_moved, with_output_moved}
use Rattle.ffm_model.specs.SignalCalls.{source_of_signal, interrupted}
use Rattle.ffm_model.specs.Calls.{call_case, error_effect, effect_of}
use Rattle.ffm_model.specs.Step.{step, after}
use Rattle.ffm_model.specs.Ranges.{ranges_of}
use Rattle.ffm_model.proofs.StepLemmas.{effect-has}
use Rattle.memory_image.proofs.Messages.{delivered_has, put_has, request_has}
use Rattle.machine_rules.specs.Vectors.{AreWithin}
use Rattle.machine_rules.proofs.Fitting.{none_within}
use Rattle.machine_rules.proofs.Moved.{read_within, input_within, output_within}
use Rattle.law_calls.specs.Vectors.{AreFour, HaveFour, LieWithin}
use Rattle.law_calls.proofs.Steps.{step-has, run-has}

-- a rule of vectors that those of psa_call meet, and that each move keeps
pub record IsKept (s : System) (W : Vectors → Type 0) : Type 0 where
  pub none : W no_vectors
  pub read : (m : ByteMap) (a in_vec in_len out_vec out_len : ℕ) (v : Vectors) → vectors_of s m a in_vec in_len out_vec out_len ≡ Some v → W v
  pub input : (v : Vectors) (index n : ℕ) → n ≤ rest_of (input_of v index) → W v → W (with_input_moved v index n)
  pub output : (v : Vectors) (index n : ℕ) → n ≤ rest_of (output_of v index) → W v → W (with_output_moved v index n)

-- each message's vectors meet it
abbrev pub AllMeet : (Vectors → Type 0) → SpmState → Type 0
AllMeet W b = All (λ p. W p.vectors) b.messages

-- ---- parts of a state

-- a message goes last
pushed : (W : Vectors → Type 0) (b : SpmState) (c : OpenConnection) (kind : ℤ) (v : Vectors) → W v → AllMeet W b → AllMeet W (with_message b c kind v)
pushed W b c kind v own all = All-push (λ (p : PendingMessage). W p.vectors) b.messages _ all own

-- ---- calls of clients

-- where a move is made, its messages' vectors meet the rule
abbrev pub MovedMeets : (Vectors → Type 0) → Option Move → Type 0
MovedMeets W o = IfSome o (λ m. AllMeet W m.spm)

abbrev EffectMeets : (Vectors → Type 0) → Option Effect → Type 0
EffectMeets W o = IfSome o (λ e. AllMeet W e.state.spm)

moves : (W : Vectors → Type 0) (st : State) (o : Option Move) → MovedMeets W o → EffectMeets W (option_map (in_state st) o)
moves W st None h = tt
moves W st (Some m) h = h

connect_to-meets : (W : Vectors → Type 0) (s : System) (b : SpmState) (a service : ℕ) → W no_vectors → AllMeet W b → AllMeet W (connect_to s b a service).spm
connect_to-meets W s b a service none all =
    let go : (x y : Bool)
    → AllMeet W (cond {A = Move} x (move (outcome.Value PSA_ERROR_CONNECTION_REFUSED) b) (cond {A = Move} y (move (outcome.Value PSA_ERROR_CONNECTION_BUSY) b) (move outcome.Blocked (connect_issued b a service)))).spm =
    elim [ true ↦ λ y. all | false ↦ elim [ true ↦ all | false ↦ All-push (λ (p : PendingMessage). W p.vectors) b.messages _ all none ] ] in
    go (is_service_panicked s b service) (in_use b a service == unwrap_or (budget_of s a service) 0)

pub connects : (W : Vectors → Type 0) (s : System) (b : SpmState) (a : ℕ) (sid : Sid) (version : ℕ) → W no_vectors → AllMeet W b → MovedMeets W (psa_connect s b a sid version)
connects W s b a sid version none all =
    each_made (λ (m : Move). AllMeet W m.spm) _ (service_at s sid) (λ i there.
    if_passes (λ (m : Move). AllMeet W m.spm) (permits s a i && (not (is_stateless s i) && takes_version s i version)) (connect_to s b a i) (λ may. connect_to-meets W s b a i none all))

call_on-meets : (W : Vectors → Type 0) (b : SpmState) (a : ℕ) (c : OpenConnection) (kind : ℤ) (v : Vectors) → W v → AllMeet W b → AllMeet W (call_on b a c kind v).spm
call_on-meets W b a c kind v own all =
    elim (is_dead c.phase) as (λ (x : Bool). AllMeet W (cond {A = Move} x (move (outcome.Value PSA_ERROR_COMMUNICATION_FAILURE) b) (move outcome.Blocked (with_phase (with_message (with_connection_phase b c.serial Busy) c kind v) a Blocked))).spm) [
      | true ↦ all
      | false ↦ pushed W (with_connection_phase b c.serial Busy) c kind v own all
    ]

on_connection : (W : Vectors → Type 0) (s : System) (st : State) (a : ℕ) (h : Handle) (kind : ℤ) (in_vec in_len out_vec out_len : ℕ)
    → ((v : Vectors) → vectors_of s st.memory a in_vec in_len out_vec out_len ≡ Some v → W v) → AllMeet W st.spm → MovedMeets W (connection_called s st a h kind in_vec in_len out_vec out_len)
on_connection W s st a h kind in_vec in_len out_vec out_len own all =
    each_made (λ (m : Move). AllMeet W m.spm) _ (connection_held st.spm a h) (λ c held. each_made (λ (m : Move). AllMeet W m.spm) _ (vectors_of s st.memory a in_vec in_len out_vec out_len) (λ v given.
    if_fails (λ (m : Move). AllMeet W m.spm) (refuses_requests c.phase || int_lt kind (pos 0)) (call_on st.spm a c kind v) (λ may. call_on-meets W st.spm a c kind v (own v given) all)))

call_to-meets : (W : Vectors → Type 0) (s : System) (b : SpmState) (a service : ℕ) (kind : ℤ) (v : Vectors) → W v → AllMeet W b → AllMeet W (call_to s b a service kind v).spm
call_to-meets W s b a service kind v own all =
    elim (is_service_panicked s b service) as (λ (x : Bool). AllMeet W (cond {A = Move} x (move (outcome.Value PSA_ERROR_COMMUNICATION_FAILURE) b) (move outcome.Blocked (with_phase (with_request b a service kind v) a Blocked))).spm) [
      | true ↦ all
      | false ↦ All-push (λ (m : PendingMessage). W m.vectors) b.messages _ all own
    ]

by_index : (W : Vectors → Type 0) (s : System) (st : State) (a index : ℕ) (kind : ℤ) (in_vec in_len out_vec out_len : ℕ)
    → ((v : Vectors) → vectors_of s st.memory a in_vec in_len out_vec out_len ≡ Some v → W v) → AllMeet W st.spm → MovedMeets W (service_called s st a index kind in_vec in_len out_vec out_len)
by_index W s st a index kind in_vec in_len out_vec out_len own all =
    each_made (λ (m : Move). AllMeet W m.spm) _ (stateless_at s index) (λ i there. each_made (λ (m : Move). AllMeet W m.spm) _ (vectors_of s st.memory a in_vec in_len out_vec out_len) (λ v given.
    if_passes (λ (m : Move). AllMeet W m.spm) (permits s a i && not (int_lt kind (pos 0))) (call_to s st.spm a i kind v) (λ may. call_to-meets W s st.spm a i kind v (own v given) all)))

pub calls : (W : Vectors → Type 0) (s : System) (st : State) (a : ℕ) (h : Handle) (kind : ℤ) (in_vec in_len out_vec out_len : ℕ)
    → ((v : Vectors) → vectors_of s st.memory a in_vec in_len out_vec out_len ≡ Some v → W v) → AllMeet W st.spm → MovedMeets W (psa_call s st a h kind in_vec in_len out_vec out_len)
calls W s st a h kind in_vec in_len out_vec out_len own all =
    elim (stateless_index h) as (λ (o : Option ℕ). MovedMeets W (option_map_or (λ index. service_called s st a index kind in_vec in_len out_vec out_len) o (connection_called s st a h kind in_vec in_len out_vec out_len))) [
      | None ↦ on_connection W s st a h kind in_vec in_len out_vec out_len own all
      | Some index ↦ by_index W s st a index kind in_vec in_len out_vec out_len own all
    ]

close_on-meets : (W : Vectors → Type 0) (b : SpmState) (a : ℕ) (c : OpenConnection) → W no_vectors → AllMeet W b → AllMeet W (close_on b a c).spm
close_on-meets W b a c none all =
    elim (is_dead c.phase) as (λ (x : Bool). AllMeet W (cond {A = Move} x (move outcome.Done (without_connection b c.serial)) (move outcome.Blocked (with_phase (with_message (with_connection_phase b c.serial Closing) c PSA_IPC_DISCONNECT no_vectors) a Blocked))).spm) [
      | true ↦ all
      | false ↦ pushed W (with_connection_phase b c.serial Closing) c PSA_IPC_DISCONNECT no_vectors none all
    ]

pub closes : (W : Vectors → Type 0) (b : SpmState) (a : ℕ) (h : Handle) → W no_vectors → AllMeet W b → MovedMeets W (psa_close b a h)
closes W b a h none all =
    elim (int_eq h.0 PSA_NULL_HANDLE) as (λ (x : Bool). MovedMeets W (if x then Some (move outcome.Done b) else option_and_then (λ c. if is_busy c.phase then None else Some (close_on b a c)) (connection_held b a h))) [
      | true ↦ all
      | false ↦ each_made (λ (m : Move). AllMeet W m.spm) _ (connection_held b a h) (λ c held. if_fails (λ (m : Move). AllMeet W m.spm) (is_busy c.phase) (close_on b a c) (λ idle. close_on-meets W b a c none all))
    ]

returned-meets : (W : Vectors → Type 0) (s : System) (st : State) (a : ℕ) (p : ActorPhase) (h : Handle) → AllMeet W st.spm → AllMeet W (returned s st a p h).state.spm
returned-meets W s st a (Ready o) h all = all
returned-meets W s st a _ h all = all

-- ---- calls of services

waits : (W : Vectors → Type 0) (s : System) (b : SpmState) (a mask timeout : ℕ) → AllMeet W b → MovedMeets W (psa_wait s b a mask timeout)
waits W s b a mask timeout all =
    if_passes (λ (m : Move). AllMeet W m.spm) (has_signal_of (assigned_to s a) mask) _
    (λ has. elim (nat_lt timeout PSA_BLOCK) as (λ (x : Bool). AllMeet W (cond {A = Move} x (move (outcome.Signals (bit_and (signals_of s b a) mask)) b) (move outcome.Blocked (with_phase b a (Waiting mask)))).spm) [ true ↦ all | false ↦ all ])

gets : (W : Vectors → Type 0) (s : System) (st : State) (a signal msg : ℕ) (h : Handle) → AllMeet W st.spm → EffectMeets W (psa_get s st a signal msg h)
gets W s st a signal msg h all =
    each_made (λ (e : Effect). AllMeet W e.state.spm) _ (service_of_signal s a signal) (λ i owned. each_made (λ (e : Effect). AllMeet W e.state.spm) _ (find (is_undelivered i) st.spm.messages) (λ m found.
    if_passes (λ (e : Effect). AllMeet W e.state.spm) (valid_buffer s a msg message_size) (get_of s st i msg h m) (λ valid. delivered_has W i h st.spm.messages all)))

marks : (W : Vectors → Type 0) (s : System) (b : SpmState) (a : ℕ) (h : Handle) (rhandle : ℕ) → AllMeet W b → MovedMeets W (psa_set_rhandle s b a h rhandle)
marks W s b a h rhandle all = elim (option_and_then (λ m. m.connection) (message_held s b a h)) as (λ (o : Option ℕ). MovedMeets W (option_map (λ n. move outcome.Done (with_rhandle b n rhandle)) o)) [ None ↦ tt | Some n ↦ all ]

input-moves : (W : Vectors → Type 0) (s : System) (b : SpmState) (a : ℕ) (h : Handle) (index len : ℕ) (m : PendingMessage) → IsKept s W → request_held s b a h index ≡ Some m → AllMeet W b
    → AllMeet W (with_vectors b h (input_moved m index (min len (rest_of (input_at m index)))))
input-moves W s b a h index len m kept e all =
    put_has W h _ b.messages (kept.input m.vectors index (min len (rest_of (input_at m index))) (omega arith) (request_has (λ (p : PendingMessage). W p.vectors) s b a h index m e all)) all

skips : (W : Vectors → Type 0) (s : System) (b : SpmState) (a : ℕ) (h : Handle) (index len : ℕ) → IsKept s W → AllMeet W b → MovedMeets W (psa_skip s b a h index len)
skips W s b a h index len kept all = each_mapped (λ (m : Move). AllMeet W m.spm) (skip_of b h index len) (request_held s b a h index) (λ m held. input-moves W s b a h index len m kept held all)

reads : (W : Vectors → Type 0) (s : System) (st : State) (a : ℕ) (h : Handle) (index buffer len : ℕ) → IsKept s W → AllMeet W st.spm → EffectMeets W (psa_read s st a h index buffer len)
reads W s st a h index buffer len kept all =
    each_made (λ (e : Effect). AllMeet W e.state.spm) _ (request_held s st.spm a h index) (λ m held.
    if_passes (λ (e : Effect). AllMeet W e.state.spm) (valid_buffer s a buffer len) (read_of st h index buffer len m) (λ valid. input-moves W s st.spm a h index len m kept held all))

writes : (W : Vectors → Type 0) (s : System) (st : State) (a : ℕ) (h : Handle) (index buffer len : ℕ) → IsKept s W → AllMeet W st.spm → EffectMeets W (psa_write s st a h index buffer len)
writes W s st a h index buffer len kept all =
    each_made (λ (e : Effect). AllMeet W e.state.spm) _ (request_held s st.spm a h index) (λ m held.
    if_passes (λ (e : Effect). AllMeet W e.state.spm) (valid_buffer s a buffer len && nat_le len (rest_of (output_at m index))) (write_of st h index buffer len m) (λ may.
    let fits : nat_le len (rest_of (output_at m index)) ≡ true = (and_parts (valid_buffer s a buffer len) _ may).1 in
    put_has W h _ st.spm.messages (kept.output m.vectors index len (grind (arith, nat_tests)) (request_has (λ (p : PendingMessage). W p.vectors) s st.spm a h index m held all)) all))

-- ---- panics and replies

filter_map-all : {X Y : Type 0} (P : Y → Type 0) (f : X → Option Y) → ((x : X) → IfSome (f x) P) → (xs : List X) → All P (filter_map f xs)
filter_map-all P f each [] = All-nil P
filter_map-all P f each (x ∷ xs) =
    let rest : All P (filter_map f xs) = filter_map-all P f each xs in
    let go : (o : Option _) → IfSome o P → All P (cons_option o (filter_map f xs)) = elim [ None ↦ λ h. rest | Some y ↦ λ h. All-cons P y (filter_map f xs) h rest ] in
    go (f x) (each x)

-- a message that a panic sends has no vectors
pub panics : (W : Vectors → Type 0) (s : System) (b : SpmState) (p : ℕ) → W no_vectors → AllMeet W b → AllMeet W (panic_effect s b p)
panics W s b p none all =
    All-append (λ (m : PendingMessage). W m.vectors) _ _ (All-filter (λ (m : PendingMessage). not (is_service_of s p m.service)) (λ m. W m.vectors) b.messages all)
    (filter_map-all (λ (m : PendingMessage). W m.vectors) (λ (c : OpenConnection). option_and_then (disconnection p) (without_service s p c)) (λ c. each_made (λ (m : PendingMessage). W m.vectors) (disconnection p) (without_service s p c) (λ d left. if_passes (λ (m : PendingMessage). W m.vectors) ((d.client.0 == p) && not (is_dead d.phase)) _ (λ own. none))) b.connections)

-- an answer leaves the other messages
either : (W : Vectors → Type 0) (x : Bool) (b c : SpmState) → AllMeet W b → AllMeet W c → AllMeet W (if x then b else c)
either W true b c first second = first
either W false b c first second = second

on_number : (W : Vectors → Type 0) (b : SpmState) (f : ℕ → SpmState) (o : Option ℕ) → ((n : ℕ) → AllMeet W (f n)) → AllMeet W b → AllMeet W (option_map_or f o b)
on_number W b f None on none = none
on_number W b f (Some n) on none = on n

answered-meet : (W : Vectors → Type 0) (s : System) (b : SpmState) (m : PendingMessage) (status : ℤ) → AllMeet W b → AllMeet W (answered s b m status)
answered-meet W s b m status all =
    let put : (ph : ConnPhase) → AllMeet W (with_request_phase b m ph) = λ ph. on_number W b (λ n. with_connection_phase b n ph) m.connection (λ n. all) all in
    either W (int_eq m.kind PSA_IPC_CONNECT) (option_map_or (λ n. connect_answered b n m status) m.connection b) _
    (on_number W b (λ n. connect_answered b n m status) m.connection (λ n. either W (int_eq status PSA_SUCCESS) _ _ all all) all)
    (either W (int_lt m.kind PSA_IPC_CALL) (option_map_or (λ n. close_answered b n m) m.connection b) (request_answered s b m status)
    (on_number W b (λ n. close_answered b n m) m.connection (λ n. either W (is_blocked (phase_of (without_connection b n) m.client.0)) _ _ all all) all)
    (either W (int_eq status PSA_ERROR_PROGRAMMER_ERROR) (request_failed s b m) _ (either W (is_partition (kind_of s m.client.0)) _ _ (put Error) (put Error)) (put Idle)))

replied-meets : (W : Vectors → Type 0) (s : System) (b : SpmState) (h : Handle) (status : ℤ) (m : PendingMessage) → AllMeet W b → AllMeet W (replied s b h status m)
replied-meets W s b h status m all = answered-meet W s (without_message b h) m status (All-filter (λ (p : PendingMessage). not (has_handle p.handle h)) (λ p. W p.vectors) b.messages all)

reply_of-meets : (W : Vectors → Type 0) (s : System) (st : State) (h : Handle) (status : ℤ) (m : PendingMessage) → W no_vectors → AllMeet W st.spm → AllMeet W (reply_of s st h status m).state.spm
reply_of-meets W s st h status m none all =
    let own : AllMeet W (replied s st.spm h status m) = replied-meets W s st.spm h status m all in
    either W (owes_panic s m status) (panic_effect s (replied s st.spm h status m) m.client.0) (replied s st.spm h status m) (panics W s (replied s st.spm h status m) m.client.0 none own) own

replies : (W : Vectors → Type 0) (s : System) (st : State) (a : ℕ) (h : Handle) (status : ℤ) → W no_vectors → AllMeet W st.spm → EffectMeets W (psa_reply s st a h status)
replies W s st a h status none all = each_mapped (λ (e : Effect). AllMeet W e.state.spm) (reply_of s st h status) (reply_to s st.spm a h status) (λ m told. reply_of-meets W s st h status m none all)

-- ---- each event

-- whatever becomes of the flags of a source
flagged : (W : Vectors → Type 0) (b : SpmState) (test : ℕ → Bool) (says : ℕ → Outcome) (flags : ℕ → List SourceFlags) (o : Option ℕ) → AllMeet W b
    → MovedMeets W (option_and_then (λ i. if test i then Some (move (says i) (record b { sources = flags i })) else None) o)
flagged W b test says flags o all = each_made (λ (m : Move). AllMeet W m.spm) _ o (λ i there. if_passes (λ (m : Move). AllMeet W m.spm) (test i) _ (λ on. all))

flags_put : (W : Vectors → Type 0) (b : SpmState) (says : ℕ → Outcome) (flags : ℕ → List SourceFlags) (o : Option ℕ) → AllMeet W b → MovedMeets W (option_map (λ i. move (says i) (record b { sources = flags i })) o)
flags_put W b says flags o all = each_mapped (λ (m : Move). AllMeet W m.spm) _ o (λ i there. all)

call-meets : (W : Vectors → Type 0) (s : System) (st : State) (a : ℕ) (c : Call) (h : Handle) → IsKept s W → AllMeet W st.spm → EffectMeets W (call_case s st a c h)
call-meets W s st a call.FrameworkVersion h kept all = all
call-meets W s st a (call.Version sid) h kept all = all
call-meets W s st a (call.Connect sid version) h kept all = moves W st _ (connects W s st.spm a sid version kept.none all)
call-meets W s st a (call.Invoke c kind iv il ov ol) h kept all = moves W st _ (calls W s st a c kind iv il ov ol (kept.read st.memory a iv il ov ol) all)
call-meets W s st a (call.Close c) h kept all = moves W st _ (closes W st.spm a c kept.none all)
call-meets W s st a (call.Wait mask timeout) h kept all = moves W st _ (waits W s st.spm a mask timeout all)
call-meets W s st a (call.Get signal msg) h kept all = gets W s st a signal msg h all
call-meets W s st a (call.SetRhandle m r) h kept all = moves W st _ (marks W s st.spm a m r all)
call-meets W s st a (call.Read m index buffer len) h kept all = reads W s st a m index buffer len kept all
call-meets W s st a (call.Skip m index len) h kept all = moves W st _ (skips W s st.spm a m index len kept all)
call-meets W s st a (call.Write m index buffer len) h kept all = writes W s st a m index buffer len kept all
call-meets W s st a (call.Reply m status) h kept all = replies W s st a m status.0 kept.none all
call-meets W s st a (call.Notify id) h kept all = moves W st _ (if_passes (λ (m : Move). AllMeet W m.spm) _ _ (λ there. all))
call-meets W s st a call.Clear h kept all = moves W st _ (if_passes (λ (m : Move). AllMeet W m.spm) _ _ (λ there. all))
call-meets W s st a (call.Eoi signal) h kept all = moves W st _ (flagged W st.spm _ (λ i. outcome.Done) _ (source_of_signal s a signal) all)
call-meets W s st a (call.IrqEnable signal) h kept all = moves W st _ (flags_put W st.spm (λ i. outcome.Done) _ (source_of_signal s a signal) all)
call-meets W s st a (call.IrqDisable signal) h kept all = moves W st _ (flags_put W st.spm _ _ (source_of_signal s a signal) all)
call-meets W s st a (call.ResetSignal signal) h kept all = moves W st _ (flagged W st.spm _ (λ i. outcome.Done) _ (source_of_signal s a signal) all)
call-meets W s st a call.Panic h kept all = tt
call-meets W s st a (call.Load at size) h kept all = if_passes (λ (e : Effect). AllMeet W e.state.spm) _ _ (λ may. all)
call-meets W s st a (call.Store at size value) h kept all = if_passes (λ (e : Effect). AllMeet W e.state.spm) _ _ (λ may. all)
call-meets W s st a (call.Raise source) h kept all = moves W st _ (if_passes (λ (m : Move). AllMeet W m.spm) _ _ (λ there. all))
call-meets W s st a (call.Fire source result) h kept all =
    moves W st _ (if_passes (λ (m : Move). AllMeet W m.spm) _ _ (λ there. either W (result == 1) (interrupted s st.spm source) st.spm all all))
call-meets W s st a (call.Stop spent) h kept all = all
call-meets W s st a call.Resume h kept all = returned-meets W s st a (phase_of st.spm a) h all

errors : (W : Vectors → Type 0) (s : System) (st : State) (a : ℕ) (c : Call) → W no_vectors → AllMeet W st.spm → (k : ActorKind) → AllMeet W (error_effect k s st a c).state.spm
errors W s st a c none all Partition = panics W s st.spm a none all
errors W s st a c none all k = all

-- a rule that psa_call and moves keep, each call keeps
pub effect-meets : (W : Vectors → Type 0) (s : System) (st : State) (a : ℕ) (c : Call) (h : Handle) → IsKept s W → AllMeet W st.spm → AllMeet W (effect_of s st a c h).state.spm
effect-meets W s st a c h kept all = effect-has (λ (e : Effect). AllMeet W e.state.spm) s st a c h (errors W s st a c kept.none all (kind_of s a)) (call-meets W s st a c h kept all)

-- and each step
pub step-meets : (W : Vectors → Type 0) (s : System) (st new : State) (e : Entry) → IsKept s W → AllMeet W st.spm → step s st e ≡ Some new → AllMeet W new.spm
step-meets W s st new e kept all h = step-has (λ (x : State). AllMeet W x.spm) s st new e h (λ c k. effect-meets W s st e.actor.0 c k kept all)

run-meets : (W : Vectors → Type 0) (s : System) (m : ByteMap) (es : List Entry) (st : State) → IsKept s W → after s m es ≡ Some st → AllMeet W st.spm
run-meets W s m es st kept h = run-has (λ (x : State). AllMeet W x.spm) s m (All-nil (λ (p : PendingMessage). W p.vectors)) (λ x new e all k. step-meets W s x new e kept all k) es st h

-- ---- four and four

four-read : (m : ByteMap) (at n : ℕ) → length (vectors_read m at n) ≡ 4
four-read m at n =
    omega (arith, length-take 4 (spans_at m at (min n 4) ++ replicate 4 no_span), length-append (spans_at m at (min n 4)) (replicate 4 no_span))

vectors-from : (s : System) (m : ByteMap) (a in_vec in_len out_vec out_len : ℕ) (v : Vectors) (P : Vectors → Type 0) → vectors_of s m a in_vec in_len out_vec out_len ≡ Some v
    → (nat_le (in_len + out_len) PSA_MAX_IOVEC ≡ true → valid_buffer s a out_vec (8 * out_len) ≡ true
    → list_all (λ w. valid_buffer s a w.base w.len) (vectors_read m in_vec in_len) ≡ true → list_all (λ w. valid_buffer s a w.base w.len) (vectors_read m out_vec out_len) ≡ true
    → P (record { input = vectors_read m in_vec in_len; output = vectors_read m out_vec out_len; out_vec = out_vec; out_len = out_len })) → P v
vectors-from s m a in_vec in_len out_vec out_len v P given own =
    let read : Vectors = record { input = vectors_read m in_vec in_len; output = vectors_read m out_vec out_len; out_vec = out_vec; out_len = out_len } in
    let go : (few first second inputs outputs : Bool) → (few ≡ true → second ≡ true → inputs ≡ true → outputs ≡ true → P read) → (if few && (first && second) && (inputs && outputs) then Some read else None) ≡ Some v → P v =
    elim [
      | true ↦ elim [
        | true ↦ elim [
          | true ↦ elim [
            | true ↦ elim [ true ↦ λ own k. (let it : read ≡ v = cc in subst P it (own refl refl refl refl)) | false ↦ λ own k. absurd (cc) ]
            | false ↦ λ outputs own k. absurd (cc)
          ]
          | false ↦ λ inputs outputs own k. absurd (cc)
        ]
        | false ↦ λ second inputs outputs own k. absurd (cc)
      ]
      | false ↦ λ first second inputs outputs own k. absurd (cc)
    ] in
    go (nat_le (in_len + out_len) PSA_MAX_IOVEC) (valid_buffer s a in_vec (8 * in_len)) (valid_buffer s a out_vec (8 * out_len)) _ _ own given

four-kept : (s : System) → IsKept s AreFour
four-kept s = record {
  none = record { inputs = refl; outputs = refl };
  read = λ m a in_vec in_len out_vec out_len v given. vectors-from s m a in_vec in_len out_vec out_len v AreFour given (λ few descriptors inputs outputs. record { inputs = four-read m in_vec in_len; outputs = four-read m out_vec out_len });
  input = λ v index n fits four. record { inputs = length-set v.input index _ ∙ four.inputs; outputs = four.outputs };
  output = λ v index n fits four. record { inputs = four.inputs; outputs = length-set v.output index _ ∙ four.outputs };
}

-- in each state of a run messages have them
pub run-four : (s : System) (m : ByteMap) (es : List Entry) (st : State) → after s m es ≡ Some st → HaveFour st.spm
run-four s m es st h = run-meets AreFour s m es st (four-kept s) h

-- ---- the condition on vectors

-- a place after the last vector moves none
input-kept : (s : System) (v : Vectors) (index n : ℕ) → n ≤ rest_of (input_of v index) → AreWithin (ranges_of s.regions) v → AreWithin (ranges_of s.regions) (with_input_moved v index n)
input-kept s v index n fits within =
    elim (cases_lt index (length v.input)) [
      | inl below ↦ input_within (ranges_of s.regions) v index n below fits within
      | inr past ↦ subst (λ (vs : List Span). AreWithin (ranges_of s.regions) (record v { input = vs })) (sym (set_past v.input index _ past)) within
    ]

output-kept : (s : System) (v : Vectors) (index n : ℕ) → n ≤ rest_of (output_of v index) → AreWithin (ranges_of s.regions) v → AreWithin (ranges_of s.regions) (with_output_moved v index n)
output-kept s v index n fits within =
    elim (cases_lt index (length v.output)) [
      | inl below ↦ output_within (ranges_of s.regions) v index n below fits within
      | inr past ↦ subst (λ (vs : List Span). AreWithin (ranges_of s.regions) (record v { output = vs })) (sym (set_past v.output index _ past)) within
    ]

pub within-kept : (s : System) → IsKept s (AreWithin (ranges_of s.regions))
within-kept s = record {
  none = none_within (ranges_of s.regions);
  read = λ m a in_vec in_len out_vec out_len v given. vectors-from s m a in_vec in_len out_vec out_len v (AreWithin (ranges_of s.regions)) given
      (λ few descriptors inputs outputs. read_within s m a in_vec in_len out_vec out_len _ _ (let fits : in_len + out_len ≤ 4 = grind (arith, nat_tests) in omega arith) descriptors refl refl inputs outputs);
  input = input-kept s;
  output = output-kept s;
}

-- each state of a run meets it
pub run-vectors : (s : System) (m : ByteMap) (es : List Entry) (st : State) → after s m es ≡ Some st → LieWithin s st.spm
run-vectors s m es st h = run-meets (AreWithin (ranges_of s.regions)) s m es st (within-kept s) h
