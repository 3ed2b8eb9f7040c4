-- The calls of `psa/client.h`: what each answers and leaves, or nothing where the call is a PROGRAMMER ERROR.
use Rattle.std.specs.Prelude.{ℕ, ℤ, pos, ◌+◌, ◌==◌, int_lt, Bool, true, false, not, ◌&&◌, ◌||◌, if◌then◌else◌, [], ◌∷◌, ◌++◌, Some, None, Option, slice_get, bit_and}
use Rattle.std.specs.Option.{option_map_or, unwrap_or}
use Rattle.std.specs.Ordering.{int_eq}
use Rattle.ffm_model.specs.declared.constants.TheConstants.{PSA_IPC_CONNECT, PSA_IPC_DISCONNECT, PSA_NULL_HANDLE, PSA_VERSION_NONE, PSA_ERROR_CONNECTION_REFUSED, PSA_ERROR_CONNECTION_BUSY, PSA_ERROR_COMMUNICATION_FAILURE}
use Rattle.ffm_model.specs.declared.system.System.{System}
use Rattle.ffm_model.specs.declared.machine.Sid.{Sid}
use Rattle.ffm_model.specs.declared.machine.Handle.{Handle}
use Rattle.ffm_model.specs.declared.machine.Outcome.{Outcome}
use Rattle.ffm_model.specs.declared.machine.Outcome.TheVariants.{Value, Signals, Blocked, Done}
use Rattle.ffm_model.specs.declared.objects.Vectors.{Vectors}
use Rattle.ffm_model.specs.declared.objects.ConnPhase.{ConnPhase}
use Rattle.ffm_model.specs.declared.objects.ConnPhase.TheVariants.{Opening, Busy, Error, Closing}
use Rattle.ffm_model.specs.declared.objects.ActorPhase.{ActorPhase}
use Rattle.ffm_model.specs.declared.objects.ActorPhase.TheVariants as phase
use Rattle.ffm_model.specs.declared.objects.OpenConnection.{OpenConnection}
use Rattle.ffm_model.specs.Actors.{service_at, budget_of, permits, version_fits, owner_of, is_stateless, stateless_at, stateless_index}
use Rattle.ffm_model.specs.Memory.{vectors_of, no_vectors}
use Rattle.ffm_model.specs.State.{SpmState, State, phase_of, with_phase, connection_held, in_use, with_connection_phase, with_connection_handle, without_connection, with_message, with_request}
use Rattle.ffm_model.specs.Signals.{signals_of, is_panicked}
use Rattle.ffm_model.specs.Panic.{is_dead}
use Rattle.ffm_model.specs.Binding.{◌>>=◌}

-- an outcome, and the state after it of all but memory and the handles of the past
pub record Move : Type 0 where
  pub outcome : Outcome
  pub spm : SpmState

-- an outcome, and the whole state after it
pub record Effect : Type 0 where
  pub outcome : Outcome
  pub state : State

abbrev pub move : Outcome → SpmState → Move
move o b = record { outcome = o; spm = b }

abbrev pub effect : Outcome → State → Effect
effect o st = record { outcome = o; state = st }

-- a move leaves the memory and the handles of the past
abbrev pub in_state : State → Move → Effect
in_state st m = effect m.outcome (record st { spm = m.spm })

-- ---- psa_version(): a service that the caller may not use answers as one that isn't there

abbrev pub version_number : System → ℕ → Sid → ℕ
version_number s a sid = option_map_or (λ i. if permits s a i then option_map_or (λ v. v.version) (slice_get s.services i) PSA_VERSION_NONE else PSA_VERSION_NONE) (service_at s sid) PSA_VERSION_NONE

-- ---- psa_connect()

abbrev pub takes_version : System → ℕ → ℕ → Bool
takes_version s service asked = option_map_or (λ v. version_fits v.policy v.version asked) (slice_get s.services service) false

abbrev pub is_service_panicked : System → SpmState → ℕ → Bool
is_service_panicked s b service = option_map_or (λ p. is_panicked (phase_of b p)) (owner_of s service) false

abbrev pub new_connection : SpmState → ℕ → ℕ → OpenConnection
new_connection b a service = record { serial = b.connections_made; client = record { 0 = a }; service = service; phase = Opening; rhandle = 0; handle = None }

-- the connection is added last, its message goes to the service, and the client waits
abbrev pub connect_issued : SpmState → ℕ → ℕ → SpmState
connect_issued b a service =
    let c = new_connection b a service in
    let added = record b { connections = b.connections ++ c ∷ []; connections_made = b.connections_made + 1 } in
    with_phase (with_message added c PSA_IPC_CONNECT no_vectors) a phase.Blocked

abbrev pub connect_to : System → SpmState → ℕ → ℕ → Move
connect_to s b a service =
    if is_service_panicked s b service
    then move (Value PSA_ERROR_CONNECTION_REFUSED) b
    else (if in_use b a service == unwrap_or (budget_of s a service) 0
    then move (Value PSA_ERROR_CONNECTION_BUSY) b
    else move Blocked (connect_issued b a service))

-- a PROGRAMMER ERROR where no service has the SID, it is stateless, the caller may not use it, or the version doesn't fit
abbrev pub psa_connect : System → SpmState → ℕ → Sid → ℕ → Option Move
psa_connect s b a sid asked = do
  service ← service_at s sid
  if permits s a service && (not (is_stateless s service) && takes_version s service asked) then Some (connect_to s b a service) else None

-- ---- psa_call()

-- a request is on its way, or one was answered with PROGRAMMER ERROR
abbrev pub refuses_requests : ConnPhase → Bool
refuses_requests Busy = true
refuses_requests Error = true
refuses_requests _ = false

abbrev pub call_on : SpmState → ℕ → OpenConnection → ℤ → Vectors → Move
call_on b a c kind v =
    if is_dead c.phase
    then move (Value PSA_ERROR_COMMUNICATION_FAILURE) b
    else move Blocked (with_phase (with_message (with_connection_phase b c.serial Busy) c kind v) a phase.Blocked)

-- a PROGRAMMER ERROR where the handle isn't the caller's, the connection can't take a request, the kind is negative or the vectors are wrong
abbrev pub connection_called : System → State → ℕ → Handle → ℤ → ℕ → ℕ → ℕ → ℕ → Option Move
connection_called s st a h kind in_vec in_len out_vec out_len = do
  connection ← connection_held st.spm a h
  vectors ← vectors_of s st.memory a in_vec in_len out_vec out_len
  if refuses_requests connection.phase || int_lt kind (pos 0) then None else Some (call_on st.spm a connection kind vectors)

abbrev pub call_to : System → SpmState → ℕ → ℕ → ℤ → Vectors → Move
call_to s b a service kind v =
    if is_service_panicked s b service
    then move (Value PSA_ERROR_COMMUNICATION_FAILURE) b
    else move Blocked (with_phase (with_request b a service kind v) a phase.Blocked)

-- a PROGRAMMER ERROR where no stateless service has the index, the caller may not use it, the kind is negative or the vectors are wrong
abbrev pub service_called : System → State → ℕ → ℕ → ℤ → ℕ → ℕ → ℕ → ℕ → Option Move
service_called s st a index kind in_vec in_len out_vec out_len = do
  service ← stateless_at s index
  vectors ← vectors_of s st.memory a in_vec in_len out_vec out_len
  if permits s a service && not (int_lt kind (pos 0)) then Some (call_to s st.spm a service kind vectors) else None

-- by a stateless handle, or on a connection
abbrev pub psa_call : System → State → ℕ → Handle → ℤ → ℕ → ℕ → ℕ → ℕ → Option Move
psa_call s st a h kind in_vec in_len out_vec out_len =
    option_map_or (λ index. service_called s st a index kind in_vec in_len out_vec out_len) (stateless_index h) (connection_called s st a h kind in_vec in_len out_vec out_len)

-- ---- psa_close()

abbrev pub is_busy : ConnPhase → Bool
is_busy Busy = true
is_busy _ = false

abbrev pub close_on : SpmState → ℕ → OpenConnection → Move
close_on b a c =
    if is_dead c.phase
    then move Done (without_connection b c.serial)
    else move Blocked (with_phase (with_message (with_connection_phase b c.serial Closing) c PSA_IPC_DISCONNECT no_vectors) a phase.Blocked)

-- PSA_NULL_HANDLE closes nothing; a PROGRAMMER ERROR where the handle isn't the caller's or a request is on its way
abbrev pub psa_close : SpmState → ℕ → Handle → Option Move
psa_close b a h =
    if int_eq h.0 PSA_NULL_HANDLE
    then Some (move Done b)
    else (do
      connection ← connection_held b a h
      if is_busy connection.phase then None else Some (close_on b a connection))

-- ---- the return of psa_connect(), psa_call(), psa_close() and psa_wait(); never a PROGRAMMER ERROR

-- a connection that was accepted gets the handle h, which its client is told
abbrev pub returned : System → State → ℕ → ActorPhase → Handle → Effect
returned s st a (phase.Ready o) h = in_state st (move o (with_phase st.spm a phase.Running))
returned s st a (phase.Connected c) h =
    effect (Value h.0) (record st { spm = with_phase (with_connection_handle st.spm c h) a phase.Running; handles_given = st.handles_given ++ h ∷ [] })
returned s st a (phase.Waiting mask) h = in_state st (move (Signals (bit_and (signals_of s st.spm a) mask)) (with_phase st.spm a phase.Running))
returned s st a _ h = effect Done st
