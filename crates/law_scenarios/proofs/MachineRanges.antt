-- A call whose numbers fit is answered with numbers that fit, and leaves a state whose numbers fit.
use Rattle.std.proofs.Common.{ℕ, ◌≡◌, ◌<◌, ◌+◌, ◌-◌, ◌^◌, Bool, true, false, cond, ◌&&◌, ◌||◌, not, List, [], ◌∷◌, ◌++◌, length, map, get_or, arith, sym, refl, subst, inl, inr}
use Rattle.std.specs.Prelude.{ℤ, pos, negsuc, int_lt, nat_lt, nat_le, min, find, bit_and, slice_get, slice_set, All, Option, Some, None, IfSome, is_none, option_and_then, if◌then◌else◌, ◌==◌}
use Rattle.std.specs.List.{cons_option, filter_map}
use Rattle.std.specs.Option.{option_map, option_map_or, unwrap_or}
use Rattle.std.specs.Ordering.{int_eq}
use Rattle.std.proofs.lemmas.Nat.{and_le_r}
use Rattle.std.proofs.lemmas.List.{get_or_past}
use Rattle.std.proofs.lemmas.List.Elements.{All-append, All-cons, All-filter, All-get_or, All-head, All-map, All-nil, All-push, All-set, All-tail, All-weaker}
use Rattle.std.proofs.lemmas.Bool.Decides.{nat_tests}
use Rattle.std.proofs.lemmas.Bool.{and_parts, cases_lt}
use Rattle.law_lists.proofs.Bools.{if_passes, if_fails}
use Rattle.law_lists.proofs.Options.{each_made, each_mapped}
use Rattle.law_lists.proofs.Lists.{AllByRecursion-at}
use Rattle.law_lists.proofs.Tests.{find-all}
use Rattle.ffm_model.specs.declared.constants.TheConstants.{PSA_BLOCK, PSA_VERSION_NONE, PSA_IPC_CALL, PSA_IPC_CONNECT, PSA_IPC_DISCONNECT, PSA_NULL_HANDLE, PSA_SUCCESS, PSA_ERROR_PROGRAMMER_ERROR, PSA_ERROR_CONNECTION_REFUSED, PSA_ERROR_CONNECTION_BUSY, PSA_ERROR_COMMUNICATION_FAILURE}
use Rattle.ffm_model.specs.declared.system.System.{System}
use Rattle.ffm_model.specs.declared.system.Service.{Service}
use Rattle.ffm_model.specs.declared.system.ActorKind.{ActorKind}
use Rattle.ffm_model.specs.declared.system.ActorKind.TheVariants.{Partition, Client, Device}
use Rattle.ffm_model.specs.declared.machine.Sid.{Sid}
use Rattle.ffm_model.specs.declared.machine.Handle.{Handle}
use Rattle.ffm_model.specs.declared.machine.Call.{Call}
use Rattle.ffm_model.specs.declared.machine.Call.TheVariants as call
use Rattle.ffm_model.specs.declared.machine.Outcome.{Outcome}
use Rattle.ffm_model.specs.declared.machine.Outcome.TheVariants as outcome
use Rattle.ffm_model.specs.declared.objects.Span.{Span}
use Rattle.ffm_model.specs.declared.objects.Vectors.{Vectors}
use Rattle.ffm_model.specs.declared.objects.SourceFlags.{SourceFlags}
use Rattle.ffm_model.specs.declared.objects.OpenConnection.{OpenConnection}
use Rattle.ffm_model.specs.declared.objects.PendingMessage.{PendingMessage}
use Rattle.ffm_model.specs.declared.objects.ConnPhase.{ConnPhase}
use Rattle.ffm_model.specs.declared.objects.ConnPhase.TheVariants as conn
use Rattle.ffm_model.specs.declared.objects.ActorPhase.{ActorPhase}
use Rattle.ffm_model.specs.declared.objects.ActorPhase.TheVariants as phase
use Rattle.ffm_model.specs.Accesses.{is_access_size}
use Rattle.ffm_model.specs.Actors.{client_id_of, id_of_kind, is_partition, is_service_of, is_stateless, kind_of, permits, service_at, stateless_at, stateless_index, budget_of}
use Rattle.ffm_model.specs.Calls.{call_case, error_effect, effect_of, effect_or_error, has_call, refusal_of}
use Rattle.ffm_model.specs.ClientCalls.{Move, Effect, move, in_state, call_on, call_to, close_on, connect_issued, connect_to, connection_called, is_busy, is_service_panicked, psa_call, psa_close, psa_connect, refuses_requests, returned, service_called, takes_version, version_number}
use Rattle.ffm_model.specs.Memory.{ByteMap, lengths_written, may_read, may_write, no_vectors, store_number, valid_buffer, vectors_of}
use Rattle.ffm_model.specs.Panic.{callers_answered, client_answered, clients_answered, disconnection, is_dead, is_lost_request, lost, panic_effect, without_client, without_service}
use Rattle.ffm_model.specs.ServiceCalls.{answered, close_answered, connect_answered, get_of, input_at, message_size, message_words, outputs_given, owes_panic, psa_get, psa_read, psa_reply, psa_set_rhandle, psa_skip, psa_wait, psa_write, read_of, replied, reply_of, reply_to, request_answered, request_failed, request_held, rest_of, service_of_signal, shown_message, sizes_of, skip_of, output_at, with_request_phase, write_of}
use Rattle.ffm_model.specs.SignalCalls.{interrupted, source_of_signal}
use Rattle.ffm_model.specs.Signals.{assigned_to, has_signal_of, is_blocked, signals_of}
use Rattle.ffm_model.specs.State.{SpmState, State, connection_by_serial, connection_held, delivered, flags_at, has_handle, in_use, is_undelivered, message_held, phase_of, with_connection_handle, with_connection_phase, with_message, with_phase, with_request, with_rhandle, with_vectors, without_connection, without_message}
use Rattle.ffm_model.specs.Step.{gives_handle}
use Rattle.ffm_model.specs.TraceText.{AreFourSizes, CallFits, IsI32, IsU32, MessageFits, OutcomeFits}
use Rattle.ffm_model.proofs.ActorLemmas.{few_clients, few_partitions}
use Rattle.law_scenarios.specs.Ranges.{HasBytes, VersionsFit}
use Rattle.law_scenarios.proofs.Numbers.{copied, loaded, stored, words-stored, zero-fits}

-- ---- what a state keeps

-- what an actor waits for, or is to be told
abbrev pub PhaseFits : ActorPhase → Type 0
PhaseFits (phase.Waiting mask) = IsU32 mask
PhaseFits (phase.Ready o) = OutcomeFits o
PhaseFits _ = Unit {0}

pub record SpmFits (b : SpmState) : Type 0 where
  pub rhandles : All (λ c. IsU32 c.rhandle) b.connections
  pub kinds : All (λ m. IsI32 m.kind) b.messages
  pub phases : All PhaseFits b.phases

pub record StateFits (st : State) : Type 0 where
  pub spm : SpmFits st.spm
  pub bytes : HasBytes st.memory

-- the sizes of each message's vectors
abbrev pub SizesFit : SpmState → Type 0
SizesFit b = All (λ m. AreFourSizes (sizes_of m.vectors.input) × AreFourSizes (sizes_of m.vectors.output)) b.messages

-- ---- what a call makes

abbrev MoveFits : Move → Type 0
MoveFits m = OutcomeFits m.outcome × SpmFits m.spm

abbrev pub EffectFits : Effect → Type 0
EffectFits e = OutcomeFits e.outcome × StateFits e.state

moves : (st : State) (o : Option Move) → HasBytes st.memory → IfSome o MoveFits → IfSome (option_map (in_state st) o) EffectFits
moves st None bytes h = tt
moves st (Some m) bytes h = (h.0, record { spm = h.1; bytes = bytes })

either : {X : Type 0} (P : X → Type 0) (b : Bool) (x y : X) → P x → P y → P (if b then x else y)
either P true x y h k = h
either P false x y h k = k

on_number : (b : SpmState) (f : ℕ → SpmState) (o : Option ℕ) → ((n : ℕ) → SpmFits (f n)) → SpmFits b → SpmFits (option_map_or f o b)
on_number b f None on none = none
on_number b f (Some n) on none = on n

-- ---- constants

small : (n : ℕ) → n < 2 ^ 31 → IsI32 (pos n)
small n h = record { sfits = h }

low : (n : ℕ) → n < 2 ^ 31 → IsI32 (negsuc n)
low n h = record { sfits = h }

refused-fits : IsI32 PSA_ERROR_CONNECTION_REFUSED
refused-fits = low 129 (omega arith)

busy-fits : IsI32 PSA_ERROR_CONNECTION_BUSY
busy-fits = low 130 (omega arith)

failed-fits : IsI32 PSA_ERROR_COMMUNICATION_FAILURE
failed-fits = low 144 (omega arith)

error-fits : IsI32 PSA_ERROR_PROGRAMMER_ERROR
error-fits = low 128 (omega arith)

connect-fits : IsI32 PSA_IPC_CONNECT
connect-fits = low 0 (omega arith)

disconnect-fits : IsI32 PSA_IPC_DISCONNECT
disconnect-fits = low 1 (omega arith)

-- ---- changes of a state

phase-put : (b : SpmState) (a : ℕ) (p : ActorPhase) → PhaseFits p → SpmFits b → SpmFits (with_phase b a p)
phase-put b a p h f = record { rhandles = f.rhandles; kinds = f.kinds; phases = All-set PhaseFits b.phases a p h f.phases }

connections-put : (b : SpmState) (g : OpenConnection → OpenConnection) → ((c : OpenConnection) → IsU32 c.rhandle → IsU32 (g c).rhandle) → SpmFits b → SpmFits (record b { connections = map g b.connections })
connections-put b g keeps f = record {
  rhandles = All-map (λ (c : OpenConnection). IsU32 c.rhandle) g b.connections (All-weaker (λ (c : OpenConnection). IsU32 c.rhandle) (λ (c : OpenConnection). IsU32 (g c).rhandle) keeps b.connections f.rhandles);
  kinds = f.kinds;
  phases = f.phases;
}

connection-phase : (b : SpmState) (n : ℕ) (p : ConnPhase) → SpmFits b → SpmFits (with_connection_phase b n p)
connection-phase b n p f = connections-put b _ (λ c h. either (λ (x : OpenConnection). IsU32 x.rhandle) (c.serial == n) (record c { phase = p }) c h h) f

connection-handle : (b : SpmState) (n : ℕ) (k : Handle) → SpmFits b → SpmFits (with_connection_handle b n k)
connection-handle b n k f = connections-put b _ (λ c h. either (λ (x : OpenConnection). IsU32 x.rhandle) (c.serial == n) (record c { handle = Some k }) c h h) f

rhandle-put : (b : SpmState) (n r : ℕ) → IsU32 r → SpmFits b → SpmFits (with_rhandle b n r)
rhandle-put b n r new f = connections-put b _ (λ c h. either (λ (x : OpenConnection). IsU32 x.rhandle) (c.serial == n) (record c { rhandle = r }) c new h) f

connection-gone : (b : SpmState) (n : ℕ) → SpmFits b → SpmFits (without_connection b n)
connection-gone b n f = record {
  rhandles = All-filter (λ (c : OpenConnection). not (c.serial == n)) (λ (c : OpenConnection). IsU32 c.rhandle) b.connections f.rhandles;
  kinds = f.kinds;
  phases = f.phases;
}

message-added : (b : SpmState) (m : PendingMessage) → IsI32 m.kind → SpmFits b → SpmFits (record b { messages = b.messages ++ m ∷ [] })
message-added b m h f = record { rhandles = f.rhandles; kinds = All-push (λ (x : PendingMessage). IsI32 x.kind) b.messages m f.kinds h; phases = f.phases }

message-gone : (b : SpmState) (k : Handle) → SpmFits b → SpmFits (without_message b k)
message-gone b k f = record {
  rhandles = f.rhandles;
  kinds = All-filter (λ (m : PendingMessage). not (has_handle m.handle k)) (λ (m : PendingMessage). IsI32 m.kind) b.messages f.kinds;
  phases = f.phases;
}

vectors-put : (b : SpmState) (k : Handle) (v : Vectors) → SpmFits b → SpmFits (with_vectors b k v)
vectors-put b k v f = record {
  rhandles = f.rhandles;
  kinds = All-map (λ (m : PendingMessage). IsI32 m.kind) _ b.messages (All-weaker (λ (m : PendingMessage). IsI32 m.kind) (λ (m : PendingMessage). IsI32 (if has_handle m.handle k then record m { vectors = v } else m).kind)
      (λ m h. either (λ (x : PendingMessage). IsI32 x.kind) (has_handle m.handle k) (record m { vectors = v }) m h h) b.messages f.kinds);
  phases = f.phases;
}

delivered-has : (P : PendingMessage → Type 0) (service : ℕ) (k : Handle) → ((m : PendingMessage) → P m → P (record m { handle = Some k })) → (ms : List PendingMessage) → All P ms → All P (delivered service k ms)
delivered-has P service k keeps [] all = all
delivered-has P service k keeps (m ∷ ms) all =
    let own : P m = All-head P m ms all in
    let rest : All P ms = All-tail P m ms all in
    either (All P) (is_undelivered service m) (record m { handle = Some k } ∷ ms) (m ∷ delivered service k ms) (All-cons P (record m { handle = Some k }) ms (keeps m own) rest)
    (All-cons P m (delivered service k ms) own (delivered-has P service k keeps ms rest))

messages-delivered : (b : SpmState) (service : ℕ) (k : Handle) → SpmFits b → SpmFits (record b { messages = delivered service k b.messages })
messages-delivered b service k f = record { rhandles = f.rhandles; kinds = delivered-has (λ (m : PendingMessage). IsI32 m.kind) service k (λ m h. h) b.messages f.kinds; phases = f.phases }

-- ---- the panic of a partition

filter_map-has : {X Y : Type 0} (P : X → Type 0) (Q : Y → Type 0) (f : X → Option Y) → ((x : X) → P x → IfSome (f x) Q) → (xs : List X) → All P xs → All Q (filter_map f xs)
filter_map-has P Q f each [] all = All-nil Q
filter_map-has P Q f each (x ∷ xs) all =
    let rest : All Q (filter_map f xs) = filter_map-has P Q f each xs (All-tail P x xs all) in
    let go : (o : Option _) → IfSome o Q → All Q (cons_option o (filter_map f xs)) = elim [ None ↦ λ h. rest | Some y ↦ λ h. All-cons Q y (filter_map f xs) h rest ] in
    go (f x) (each x (All-head P x xs all))

lost-has : (c : OpenConnection) (o : Option ConnPhase) → IsU32 c.rhandle → IfSome (option_map (λ p. record c { phase = p }) o) (λ (d : OpenConnection). IsU32 d.rhandle)
lost-has c None h = tt
lost-has c (Some p) h = h

left-has : (s : System) (p : ℕ) (c : OpenConnection) → IsU32 c.rhandle → IfSome (option_and_then (without_client p) (without_service s p c)) (λ (d : OpenConnection). IsU32 d.rhandle)
left-has s p c h =
    let own : IfSome (without_service s p c) (λ (d : OpenConnection). IsU32 d.rhandle) =
    either (λ (o : Option OpenConnection). IfSome o (λ (d : OpenConnection). IsU32 d.rhandle)) (is_service_of s p c.service) (option_map (λ f. record c { phase = f }) (lost c.phase)) (Some c) (lost-has c (lost c.phase) h) h in
    let on : (d : OpenConnection) → IsU32 d.rhandle → IfSome (without_client p d) (λ (x : OpenConnection). IsU32 x.rhandle) =
    λ d k. either (λ (o : Option OpenConnection). IfSome o (λ (x : OpenConnection). IsU32 x.rhandle)) (d.client.0 == p) (if is_dead d.phase then None else Some (record d { phase = conn.Closing })) (Some d)
    (either (λ (o : Option OpenConnection). IfSome o (λ (x : OpenConnection). IsU32 x.rhandle)) (is_dead d.phase) None (Some (record d { phase = conn.Closing })) tt k) k in
    let go : (o : Option OpenConnection) → IfSome o (λ (d : OpenConnection). IsU32 d.rhandle) → IfSome (option_and_then (without_client p) o) (λ (d : OpenConnection). IsU32 d.rhandle) = elim [ None ↦ λ k. tt | Some d ↦ λ k. on d k ] in
    go (without_service s p c) own

answer-put : (ps : List ActorPhase) (a : ℕ) (o : Outcome) → OutcomeFits o → All PhaseFits ps → All PhaseFits (slice_set ps a (phase.Ready o))
answer-put ps a o h all = All-set PhaseFits ps a (phase.Ready o) h all

client-answered : (c : ConnPhase) (ps : List ActorPhase) (a : ℕ) → All PhaseFits ps → All PhaseFits (client_answered c ps a)
client-answered conn.Opening ps a all = answer-put ps a (outcome.Value PSA_ERROR_CONNECTION_REFUSED) refused-fits all
client-answered conn.Busy ps a all = answer-put ps a (outcome.Value PSA_ERROR_COMMUNICATION_FAILURE) failed-fits all
client-answered conn.Closing ps a all = either (All PhaseFits) (is_blocked (get_or ps a phase.Ended)) (slice_set ps a (phase.Ready outcome.Done)) ps (answer-put ps a outcome.Done tt all) all
client-answered conn.Idle ps a all = all
client-answered conn.Error ps a all = all
client-answered conn.Dead ps a all = all

clients-answered : (s : System) (p : ℕ) (cs : List OpenConnection) (ps : List ActorPhase) → All PhaseFits ps → All PhaseFits (clients_answered s p cs ps)
clients-answered s p [] ps all = all
clients-answered s p (c ∷ cs) ps all =
    clients-answered s p cs _ (either (All PhaseFits) (is_service_of s p c.service) (client_answered c.phase ps c.client.0) ps (client-answered c.phase ps c.client.0 all) all)

callers-answered : (s : System) (p : ℕ) (ms : List PendingMessage) (ps : List ActorPhase) → All PhaseFits ps → All PhaseFits (callers_answered s p ms ps)
callers-answered s p [] ps all = all
callers-answered s p (m ∷ ms) ps all =
    callers-answered s p ms _ (either (All PhaseFits) (is_lost_request s p m) (slice_set ps m.client.0 (phase.Ready (outcome.Value PSA_ERROR_COMMUNICATION_FAILURE))) ps (answer-put ps m.client.0 (outcome.Value PSA_ERROR_COMMUNICATION_FAILURE) failed-fits all) all)

no-demand : {X : Type 0} (xs : List X) → All (λ (x : X). Unit {0}) xs
no-demand xs = λ k d below. tt

panics : (s : System) (b : SpmState) (p : ℕ) → SpmFits b → SpmFits (panic_effect s b p)
panics s b p f = record {
  rhandles = filter_map-has (λ (c : OpenConnection). IsU32 c.rhandle) (λ (c : OpenConnection). IsU32 c.rhandle) (λ c. option_and_then (without_client p) (without_service s p c)) (left-has s p) b.connections f.rhandles;
  kinds = All-append (λ (m : PendingMessage). IsI32 m.kind) _ _ (All-filter (λ (m : PendingMessage). not (is_service_of s p m.service)) (λ (m : PendingMessage). IsI32 m.kind) b.messages f.kinds)
      (filter_map-has (λ (c : OpenConnection). Unit {0}) (λ (m : PendingMessage). IsI32 m.kind) (λ c. option_and_then (disconnection p) (without_service s p c))
      (λ c h. each_made (λ (m : PendingMessage). IsI32 m.kind) (disconnection p) (without_service s p c) (λ d left. if_passes (λ (m : PendingMessage). IsI32 m.kind) ((d.client.0 == p) && not (is_dead d.phase)) _ (λ own. disconnect-fits)))
      b.connections (no-demand b.connections));
  phases = callers-answered s p b.messages _ (clients-answered s p b.connections _ (All-set PhaseFits b.phases p phase.Panicked tt f.phases));
}

-- ---- calls of clients

version-fits : (s : System) (a : ℕ) (sid : Sid) → VersionsFit s → IsU32 (version_number s a sid)
version-fits s a sid versions =
    let own : (i : ℕ) (o : Option Service) → ((v : Service) → o ≡ Some v → IsU32 v.version) → IsU32 (option_map_or (λ v. v.version) o PSA_VERSION_NONE) = λ i. elim [ None ↦ λ h. zero-fits | Some v ↦ λ h. h v refl ] in
    let go : (o : Option ℕ) → IsU32 (option_map_or (λ i. if permits s a i then option_map_or (λ v. v.version) (slice_get s.services i) PSA_VERSION_NONE else PSA_VERSION_NONE) o PSA_VERSION_NONE) =
    elim [
      | None ↦ zero-fits
      | Some i ↦ either IsU32 (permits s a i) _ PSA_VERSION_NONE (own i (slice_get s.services i) (λ v e. AllByRecursion-at (λ (x : Service). IsU32 x.version) s.services i v versions e)) zero-fits
    ] in
    go (service_at s sid)

issued : (b : SpmState) (a service : ℕ) → SpmFits b → SpmFits (connect_issued b a service)
issued b a service f =
    let added : SpmFits (record b { connections = b.connections ++ record { serial = b.connections_made; client = record { 0 = a }; service = service; phase = conn.Opening; rhandle = 0; handle = None } ∷ []; connections_made = b.connections_made + 1 }) = record {
      rhandles = All-push (λ (c : OpenConnection). IsU32 c.rhandle) b.connections _ f.rhandles zero-fits;
      kinds = f.kinds;
      phases = f.phases;
    } in
    phase-put _ a phase.Blocked tt (message-added _ _ connect-fits added)

connect_to-fits : (s : System) (b : SpmState) (a service : ℕ) → SpmFits b → MoveFits (connect_to s b a service)
connect_to-fits s b a service f =
    either MoveFits (is_service_panicked s b service) (move (outcome.Value PSA_ERROR_CONNECTION_REFUSED) b) _ (refused-fits, f)
    (either MoveFits (in_use b a service == unwrap_or (budget_of s a service) 0) (move (outcome.Value PSA_ERROR_CONNECTION_BUSY) b) (move outcome.Blocked (connect_issued b a service)) (busy-fits, f) (tt, issued b a service f))

connects : (s : System) (b : SpmState) (a : ℕ) (sid : Sid) (version : ℕ) → SpmFits b → IfSome (psa_connect s b a sid version) MoveFits
connects s b a sid version f =
    each_made MoveFits _ (service_at s sid) (λ i there. if_passes MoveFits (permits s a i && (not (is_stateless s i) && takes_version s i version)) (connect_to s b a i) (λ may. connect_to-fits s b a i f))

call_on-fits : (b : SpmState) (a : ℕ) (c : OpenConnection) (kind : ℤ) (v : Vectors) → IsI32 kind → SpmFits b → MoveFits (call_on b a c kind v)
call_on-fits b a c kind v h f =
    either MoveFits (is_dead c.phase) (move (outcome.Value PSA_ERROR_COMMUNICATION_FAILURE) b) (move outcome.Blocked (with_phase (with_message (with_connection_phase b c.serial conn.Busy) c kind v) a phase.Blocked)) (failed-fits, f)
    (tt, phase-put _ a phase.Blocked tt (message-added _ _ h (connection-phase b c.serial conn.Busy f)))

on_connection : (s : System) (st : State) (a : ℕ) (k : Handle) (kind : ℤ) (iv il ov ol : ℕ) → IsI32 kind → SpmFits st.spm → IfSome (connection_called s st a k kind iv il ov ol) MoveFits
on_connection s st a k kind iv il ov ol h f =
    each_made MoveFits _ (connection_held st.spm a k) (λ c held. each_made MoveFits _ (vectors_of s st.memory a iv il ov ol) (λ v given.
    if_fails MoveFits (refuses_requests c.phase || int_lt kind (pos 0)) (call_on st.spm a c kind v) (λ may. call_on-fits st.spm a c kind v h f)))

call_to-fits : (s : System) (b : SpmState) (a service : ℕ) (kind : ℤ) (v : Vectors) → IsI32 kind → SpmFits b → MoveFits (call_to s b a service kind v)
call_to-fits s b a service kind v h f =
    either MoveFits (is_service_panicked s b service) (move (outcome.Value PSA_ERROR_COMMUNICATION_FAILURE) b) (move outcome.Blocked (with_phase (with_request b a service kind v) a phase.Blocked)) (failed-fits, f)
    (tt, phase-put _ a phase.Blocked tt (message-added _ _ h f))

by_index : (s : System) (st : State) (a index : ℕ) (kind : ℤ) (iv il ov ol : ℕ) → IsI32 kind → SpmFits st.spm → IfSome (service_called s st a index kind iv il ov ol) MoveFits
by_index s st a index kind iv il ov ol h f =
    each_made MoveFits _ (stateless_at s index) (λ i there. each_made MoveFits _ (vectors_of s st.memory a iv il ov ol) (λ v given.
    if_passes MoveFits (permits s a i && not (int_lt kind (pos 0))) (call_to s st.spm a i kind v) (λ may. call_to-fits s st.spm a i kind v h f)))

calls : (s : System) (st : State) (a : ℕ) (k : Handle) (kind : ℤ) (iv il ov ol : ℕ) → IsI32 kind → SpmFits st.spm → IfSome (psa_call s st a k kind iv il ov ol) MoveFits
calls s st a k kind iv il ov ol h f =
    elim (stateless_index k) as (λ (o : Option ℕ). IfSome (option_map_or (λ index. service_called s st a index kind iv il ov ol) o (connection_called s st a k kind iv il ov ol)) MoveFits) [
      | None ↦ on_connection s st a k kind iv il ov ol h f
      | Some index ↦ by_index s st a index kind iv il ov ol h f
    ]

close_on-fits : (b : SpmState) (a : ℕ) (c : OpenConnection) → SpmFits b → MoveFits (close_on b a c)
close_on-fits b a c f =
    either MoveFits (is_dead c.phase) (move outcome.Done (without_connection b c.serial)) (move outcome.Blocked (with_phase (with_message (with_connection_phase b c.serial conn.Closing) c PSA_IPC_DISCONNECT no_vectors) a phase.Blocked)) (tt, connection-gone b c.serial f)
    (tt, phase-put _ a phase.Blocked tt (message-added _ _ disconnect-fits (connection-phase b c.serial conn.Closing f)))

closes : (b : SpmState) (a : ℕ) (k : Handle) → SpmFits b → IfSome (psa_close b a k) MoveFits
closes b a k f =
    elim (int_eq k.0 PSA_NULL_HANDLE) as (λ (x : Bool). IfSome (if x then Some (move outcome.Done b) else option_and_then (λ c. if is_busy c.phase then None else Some (close_on b a c)) (connection_held b a k)) MoveFits) [
      | true ↦ (tt, f)
      | false ↦ each_made MoveFits _ (connection_held b a k) (λ c held. if_fails MoveFits (is_busy c.phase) (close_on b a c) (λ idle. close_on-fits b a c f))
    ]

masked : (word mask : ℕ) → IsU32 mask → IsU32 (bit_and word mask)
masked word mask h = omega (arith, and_le_r word mask, h)

returned-fits : (s : System) (st : State) (a : ℕ) (p : ActorPhase) (k : Handle) → PhaseFits p → (gives_handle p call.Resume ≡ true → IsI32 k.0) → StateFits st → EffectFits (returned s st a p k)
returned-fits s st a (phase.Ready o) k h new f = (h, record { spm = phase-put st.spm a phase.Running tt f.spm; bytes = f.bytes })
returned-fits s st a (phase.Connected c) k h new f = (new refl, record { spm = phase-put _ a phase.Running tt (connection-handle st.spm c k f.spm); bytes = f.bytes })
returned-fits s st a (phase.Waiting mask) k h new f = (masked (signals_of s st.spm a) mask h, record { spm = phase-put st.spm a phase.Running tt f.spm; bytes = f.bytes })
returned-fits s st a phase.Running k h new f = (tt, f)
returned-fits s st a phase.Blocked k h new f = (tt, f)
returned-fits s st a phase.Ended k h new f = (tt, f)
returned-fits s st a phase.Panicked k h new f = (tt, f)

phase-fits : (ps : List ActorPhase) (a : ℕ) → All PhaseFits ps → PhaseFits (get_or ps a phase.Ended)
phase-fits ps a all = elim (cases_lt a (length ps)) [
  | inl below ↦ All-get_or PhaseFits ps a phase.Ended below all
  | inr past ↦ subst PhaseFits (sym (get_or_past ps a phase.Ended past)) tt
]

-- ---- calls of services

waits : (s : System) (b : SpmState) (a mask timeout : ℕ) → IsU32 mask → SpmFits b → IfSome (psa_wait s b a mask timeout) MoveFits
waits s b a mask timeout h f =
    if_passes MoveFits (has_signal_of (assigned_to s a) mask) _ (λ has. either MoveFits (nat_lt timeout PSA_BLOCK) (move (outcome.Signals (bit_and (signals_of s b a) mask)) b) (move outcome.Blocked (with_phase b a (phase.Waiting mask)))
    (masked (signals_of s b a) mask h, f) (tt, phase-put b a (phase.Waiting mask) h f))

client-id : (s : System) (a : ℕ) → IsI32 (client_id_of s a)
client-id s a =
    let p : ℕ = length s.partitions in
    let go : (x y : Bool) → nat_lt a p ≡ x → nat_lt a (p + length s.clients) ≡ y → IsI32 (id_of_kind (if x then Partition else (if y then Client else Device)) p a) = elim [
      | true ↦ λ y e d. (let below : a < p = grind (arith, nat_tests) in small (a + 1) (omega (arith, below, few_partitions s)))
      | false ↦ elim [
        | true ↦ λ e d. (let below : a < p + length s.clients = grind (arith, nat_tests) in low (a - p) (omega (arith, below, few_clients s)))
        | false ↦ λ e d. small 0 (omega arith)
      ]
    ] in
    go (nat_lt a p) (nat_lt a (p + length s.clients)) refl refl

rhandle-has : (b : SpmState) (o : Option ℕ) → SpmFits b → IsU32 (option_map_or (λ c. c.rhandle) (option_and_then (connection_by_serial b) o) 0)
rhandle-has b None f = zero-fits
rhandle-has b (Some n) f =
    let go : (o : Option OpenConnection) → connection_by_serial b n ≡ o → IsU32 (option_map_or (λ c. c.rhandle) o 0) = elim [
      | None ↦ λ e. zero-fits
      | Some c ↦ λ e. find-all (λ (x : OpenConnection). IsU32 x.rhandle) (λ x. x.serial == n) b.connections c e f.rhandles
    ] in
    go (connection_by_serial b n) refl

-- the sizes of a message's vectors
abbrev HasSizes : PendingMessage → Type 0
HasSizes m = AreFourSizes (sizes_of m.vectors.input) × AreFourSizes (sizes_of m.vectors.output)

shown-fits : (s : System) (b : SpmState) (m : PendingMessage) (k : Handle) → IsI32 k.0 → IsI32 m.kind → HasSizes m → SpmFits b → MessageFits (shown_message s b m k)
shown-fits s b m k handle kind sizes f =
    ((kind, (handle, (client-id s m.client.0, (either IsU32 (int_eq m.kind PSA_IPC_CONNECT) 0 _ zero-fits (rhandle-has b m.connection f), tt)))), sizes.0, sizes.1)

gets : (s : System) (st : State) (a signal msg : ℕ) (k : Handle) → (is_none (psa_get s st a signal msg k) ≡ false → IsI32 k.0) → SizesFit st.spm → StateFits st → IfSome (psa_get s st a signal msg k) EffectFits
gets s st a signal msg k new sizes f =
    let at : ℕ → PendingMessage → Option Effect = λ i m. if valid_buffer s a msg message_size then Some (get_of s st i msg k m) else None in
    let find_in : ℕ → Option Effect = λ i. option_and_then (at i) (find (is_undelivered i) st.spm.messages) in
    let got : (i : ℕ) (m : PendingMessage) → find (is_undelivered i) st.spm.messages ≡ Some m → IsI32 k.0 → EffectFits (get_of s st i msg k m) =
    λ i m e h. (
      shown-fits s st.spm m k h (find-all (λ (x : PendingMessage). IsI32 x.kind) (is_undelivered i) st.spm.messages m e f.spm.kinds) (find-all HasSizes (is_undelivered i) st.spm.messages m e sizes) f.spm,
      record { spm = messages-delivered st.spm i k f.spm; bytes = words-stored st.memory msg (message_words (shown_message s st.spm m k)) f.bytes },
    ) in
    let on : (i : ℕ) (m : PendingMessage) (x : Bool) → find (is_undelivered i) st.spm.messages ≡ Some m → (is_none (if x then Some (get_of s st i msg k m) else None) ≡ false → IsI32 k.0) → IfSome (if x then Some (get_of s st i msg k m) else None) EffectFits =
    λ i m. elim [ true ↦ λ e h. got i m e (h refl) | false ↦ λ e h. tt ] in
    let within : (i : ℕ) (o : Option PendingMessage) → find (is_undelivered i) st.spm.messages ≡ o → (is_none (option_and_then (at i) o) ≡ false → IsI32 k.0) → IfSome (option_and_then (at i) o) EffectFits =
    λ i. elim [ None ↦ λ e h. tt | Some m ↦ on i m (valid_buffer s a msg message_size) ] in
    let go : (o : Option ℕ) → (is_none (option_and_then find_in o) ≡ false → IsI32 k.0) → IfSome (option_and_then find_in o) EffectFits =
    elim [ None ↦ λ h. tt | Some i ↦ within i (find (is_undelivered i) st.spm.messages) refl ] in
    go (service_of_signal s a signal) new

marks : (s : System) (b : SpmState) (a : ℕ) (k : Handle) (r : ℕ) → IsU32 r → SpmFits b → IfSome (psa_set_rhandle s b a k r) MoveFits
marks s b a k r h f = each_mapped MoveFits (λ n. move outcome.Done (with_rhandle b n r)) (option_and_then (λ m. m.connection) (message_held s b a k)) (λ n there. (tt, rhandle-put b n r h f))

least : (n rest : ℕ) → IsU32 n → IsU32 (min n rest)
least n rest h = omega (arith, h)

skips : (s : System) (b : SpmState) (a : ℕ) (k : Handle) (index len : ℕ) → IsU32 len → SpmFits b → IfSome (psa_skip s b a k index len) MoveFits
skips s b a k index len h f = each_mapped MoveFits (skip_of b k index len) (request_held s b a k index) (λ m held. (least len (rest_of (input_at m index)) h, vectors-put b k _ f))

reads : (s : System) (st : State) (a : ℕ) (k : Handle) (index buffer len : ℕ) → IsU32 len → StateFits st → IfSome (psa_read s st a k index buffer len) EffectFits
reads s st a k index buffer len h f =
    each_made EffectFits _ (request_held s st.spm a k index) (λ m held. if_passes EffectFits (valid_buffer s a buffer len) (read_of st k index buffer len m) (λ valid.
    (least len (rest_of (input_at m index)) h, record { spm = vectors-put st.spm k _ f.spm; bytes = copied st.memory _ buffer _ f.bytes })))

writes : (s : System) (st : State) (a : ℕ) (k : Handle) (index buffer len : ℕ) → StateFits st → IfSome (psa_write s st a k index buffer len) EffectFits
writes s st a k index buffer len f =
    each_made EffectFits _ (request_held s st.spm a k index) (λ m held. if_passes EffectFits (valid_buffer s a buffer len && nat_le len (rest_of (output_at m index))) (write_of st k index buffer len m) (λ may.
    (tt, record { spm = vectors-put st.spm k _ f.spm; bytes = copied st.memory buffer _ len f.bytes })))

-- ---- psa_reply

answered-fits : (s : System) (b : SpmState) (m : PendingMessage) (status : ℤ) → IsI32 status → SpmFits b → SpmFits (answered s b m status)
answered-fits s b m status h f =
    let c : ℕ = m.client.0 in
    let told : (x : SpmState) (o : Outcome) → OutcomeFits o → SpmFits x → SpmFits (with_phase x c (phase.Ready o)) = λ x o fits g. phase-put x c (phase.Ready o) fits g in
    let put : (p : ConnPhase) → SpmFits (with_request_phase b m p) = λ p. on_number b (λ n. with_connection_phase b n p) m.connection (λ n. connection-phase b n p f) f in
    let opened : (n : ℕ) → SpmFits (connect_answered b n m status) =
    λ n. either SpmFits (int_eq status PSA_SUCCESS) (with_phase (with_connection_phase b n conn.Idle) c (phase.Connected n)) (with_phase (without_connection b n) c (phase.Ready (outcome.Value status)))
    (phase-put _ c (phase.Connected n) tt (connection-phase b n conn.Idle f)) (told _ (outcome.Value status) h (connection-gone b n f)) in
    let closed : (n : ℕ) → SpmFits (close_answered b n m) =
    λ n. either SpmFits (is_blocked (phase_of (without_connection b n) c)) (with_phase (without_connection b n) c (phase.Ready outcome.Done)) (without_connection b n) (told _ outcome.Done tt (connection-gone b n f)) (connection-gone b n f) in
    let failed : SpmFits (request_failed s b m) =
    either SpmFits (is_partition (kind_of s c)) (with_request_phase b m conn.Error) _ (put conn.Error) (told _ (outcome.Value PSA_ERROR_PROGRAMMER_ERROR) error-fits (put conn.Error)) in
    either SpmFits (int_eq m.kind PSA_IPC_CONNECT) (option_map_or (λ n. connect_answered b n m status) m.connection b) _ (on_number b (λ n. connect_answered b n m status) m.connection opened f)
    (either SpmFits (int_lt m.kind PSA_IPC_CALL) (option_map_or (λ n. close_answered b n m) m.connection b) (request_answered s b m status) (on_number b (λ n. close_answered b n m) m.connection closed f)
    (either SpmFits (int_eq status PSA_ERROR_PROGRAMMER_ERROR) (request_failed s b m) _ failed (told _ (outcome.Value status) h (put conn.Idle))))

lengths-written : (m : ByteMap) (at : ℕ) (vs : List Span) → HasBytes m → HasBytes (lengths_written m at vs)
lengths-written m at [] h = h
lengths-written m at (v ∷ vs) h = lengths-written (store_number m (at + 4) 4 v.moved) (at + 8) vs (stored m (at + 4) 4 v.moved h)

reply_of-fits : (s : System) (st : State) (k : Handle) (status : ℤ) (m : PendingMessage) → IsI32 status → StateFits st → EffectFits (reply_of s st k status m)
reply_of-fits s st k status m h f =
    let b : SpmState = replied s st.spm k status m in
    let own : SpmFits b = answered-fits s (without_message st.spm k) m status h (message-gone st.spm k f.spm) in (
      tt,
      record {
        spm = either SpmFits (owes_panic s m status) (panic_effect s b m.client.0) b (panics s b m.client.0 own) own;
        bytes = either HasBytes (int_lt m.kind PSA_IPC_CALL) st.memory (lengths_written st.memory m.vectors.out_vec (outputs_given m)) f.bytes (lengths-written st.memory m.vectors.out_vec (outputs_given m) f.bytes);
      },
    )

replies : (s : System) (st : State) (a : ℕ) (k : Handle) (status : ℤ) → IsI32 status → StateFits st → IfSome (psa_reply s st a k status) EffectFits
replies s st a k status h f = each_mapped EffectFits (reply_of s st k status) (reply_to s st.spm a k status) (λ m told. reply_of-fits s st k status m h f)

-- ---- doorbells and interrupts

beside : (b : SpmState) (doorbells : List Bool) (sources : List SourceFlags) → SpmFits b → SpmFits (record b { doorbells = doorbells; sources = sources })
beside b doorbells sources f = record { rhandles = f.rhandles; kinds = f.kinds; phases = f.phases }

flagged : (b : SpmState) (test : ℕ → Bool) (says : ℕ → Outcome) (flags : ℕ → List SourceFlags) (o : Option ℕ) → ((i : ℕ) → OutcomeFits (says i)) → SpmFits b
    → IfSome (option_and_then (λ i. if test i then Some (move (says i) (record b { sources = flags i })) else None) o) MoveFits
flagged b test says flags o h f = each_made MoveFits _ o (λ i there. if_passes MoveFits (test i) _ (λ on. (h i, beside b b.doorbells (flags i) f)))

flags_put : (b : SpmState) (says : ℕ → Outcome) (flags : ℕ → List SourceFlags) (o : Option ℕ) → ((i : ℕ) → OutcomeFits (says i)) → SpmFits b → IfSome (option_map (λ i. move (says i) (record b { sources = flags i })) o) MoveFits
flags_put b says flags o h f = each_mapped MoveFits _ o (λ i there. (h i, beside b b.doorbells (flags i) f))

one-or-none : (x : Bool) → IsU32 (if x then 1 else 0)
one-or-none true = omega arith
one-or-none false = zero-fits

-- ---- each call

call-fits : (s : System) (st : State) (a : ℕ) (c : Call) (k : Handle) → VersionsFit s → CallFits c → (gives_handle (phase_of st.spm a) c ≡ true → is_none (call_case s st a c k) ≡ false → IsI32 k.0) → SizesFit st.spm → StateFits st
    → IfSome (call_case s st a c k) EffectFits
call-fits s st a call.FrameworkVersion k v c new sizes f = (omega arith, f)
call-fits s st a (call.Version sid) k v c new sizes f = (version-fits s a sid v, f)
call-fits s st a (call.Connect sid version) k v c new sizes f = moves st _ f.bytes (connects s st.spm a sid version f.spm)
call-fits s st a (call.Invoke n kind iv il ov ol) k v c new sizes f = moves st _ f.bytes (calls s st a n kind iv il ov ol c.1.0 f.spm)
call-fits s st a (call.Close n) k v c new sizes f = moves st _ f.bytes (closes st.spm a n f.spm)
call-fits s st a (call.Wait mask timeout) k v c new sizes f = moves st _ f.bytes (waits s st.spm a mask timeout c.0 f.spm)
call-fits s st a (call.Get signal msg) k v c new sizes f = gets s st a signal msg k (new refl) sizes f
call-fits s st a (call.SetRhandle n r) k v c new sizes f = moves st _ f.bytes (marks s st.spm a n r c.1.0 f.spm)
call-fits s st a (call.Read n index buffer len) k v c new sizes f = reads s st a n index buffer len c.1.1.1.0 f
call-fits s st a (call.Skip n index len) k v c new sizes f = moves st _ f.bytes (skips s st.spm a n index len c.1.1.0 f.spm)
call-fits s st a (call.Write n index buffer len) k v c new sizes f = writes s st a n index buffer len f
call-fits s st a (call.Reply n status) k v c new sizes f = replies s st a n status.0 c.1.0 f
call-fits s st a (call.Notify id) k v c new sizes f = moves st _ f.bytes (if_passes MoveFits _ _ (λ there. (tt, beside st.spm _ st.spm.sources f.spm)))
call-fits s st a call.Clear k v c new sizes f = moves st _ f.bytes (if_passes MoveFits _ _ (λ there. (tt, beside st.spm _ st.spm.sources f.spm)))
call-fits s st a (call.Eoi signal) k v c new sizes f = moves st _ f.bytes (flagged st.spm _ (λ i. outcome.Done) _ (source_of_signal s a signal) (λ i. tt) f.spm)
call-fits s st a (call.IrqEnable signal) k v c new sizes f = moves st _ f.bytes (flags_put st.spm (λ i. outcome.Done) _ (source_of_signal s a signal) (λ i. tt) f.spm)
call-fits s st a (call.IrqDisable signal) k v c new sizes f = moves st _ f.bytes (flags_put st.spm _ _ (source_of_signal s a signal) (λ i. one-or-none (flags_at st.spm i).enabled) f.spm)
call-fits s st a (call.ResetSignal signal) k v c new sizes f = moves st _ f.bytes (flagged st.spm _ (λ i. outcome.Done) _ (source_of_signal s a signal) (λ i. tt) f.spm)
call-fits s st a call.Panic k v c new sizes f = tt
call-fits s st a (call.Load at size) k v c new sizes f =
    if_passes EffectFits (is_access_size size && may_read s a at size) _ (λ may. (loaded st.memory at size f.bytes (and_parts (is_access_size size) _ may).0, f))
call-fits s st a (call.Store at size value) k v c new sizes f =
    if_passes EffectFits (is_access_size size && may_write s a at size) _ (λ may. (tt, record { spm = f.spm; bytes = stored st.memory at size value f.bytes }))
call-fits s st a (call.Raise source) k v c new sizes f = moves st _ f.bytes (if_passes MoveFits _ _ (λ there. (tt, beside st.spm st.spm.doorbells _ f.spm)))
call-fits s st a (call.Fire source result) k v c new sizes f =
    moves st _ f.bytes (if_passes MoveFits _ _ (λ there. (tt, either SpmFits (result == 1) (interrupted s st.spm source) st.spm (beside st.spm st.spm.doorbells _ f.spm) f.spm)))
call-fits s st a (call.Stop spent) k v c new sizes f = (tt, record { spm = phase-put st.spm a phase.Ended tt f.spm; bytes = f.bytes })
call-fits s st a call.Resume k v c new sizes f =
    returned-fits s st a (phase_of st.spm a) k (phase-fits st.spm.phases a f.spm.phases) (λ gives. new gives refl) f

-- ---- a PROGRAMMER ERROR

refusal-fits : (c : Call) → OutcomeFits (refusal_of c)
refusal-fits (call.Connect sid version) = refused-fits
refusal-fits (call.Close h) = tt
refusal-fits _ = error-fits

errors : (s : System) (st : State) (a : ℕ) (c : Call) → StateFits st → (k : ActorKind) → EffectFits (error_effect k s st a c)
errors s st a c f Partition = (tt, record { spm = panics s st.spm a f.spm; bytes = f.bytes })
errors s st a c f Client = (refusal-fits c, f)
errors s st a c f Device = (error-fits, f)

-- ---- both

-- a handle that is given fits, where the actor has the call and makes it
abbrev pub GivesFit : System → State → ℕ → Call → Handle → Type 0
GivesFit s st a c k = has_call (kind_of s a) c ≡ true → gives_handle (phase_of st.spm a) c ≡ true → is_none (call_case s st a c k) ≡ false → IsI32 k.0

pub effect-fits : (s : System) (st : State) (a : ℕ) (c : Call) (k : Handle) → VersionsFit s → CallFits c → GivesFit s st a c k → SizesFit st.spm → StateFits st → EffectFits (effect_of s st a c k)
effect-fits s st a c k v fits new sizes f =
    let error : EffectFits (error_effect (kind_of s a) s st a c) = errors s st a c f (kind_of s a) in
    let of_call : (o : Option Effect) → IfSome o EffectFits → EffectFits (effect_or_error o (kind_of s a) s st a c) = elim [ None ↦ λ m. error | Some e ↦ λ m. m ] in
    let go : (x : Bool) → has_call (kind_of s a) c ≡ x → EffectFits (effect_or_error (cond {A = Option Effect} x (call_case s st a c k) None) (kind_of s a) s st a c) = elim [
      | true ↦ λ has. of_call (call_case s st a c k) (call-fits s st a c k v fits (new has) sizes f)
      | false ↦ λ has. error
    ] in
    go (has_call (kind_of s a) c) refl
