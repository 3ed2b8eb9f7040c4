-- The calls of `psa/service.h`: what each answers and leaves, or nothing where the call is a PROGRAMMER ERROR.
use Rattle.std.specs.Prelude.{ℕ, ℤ, ◌+◌, ◌-◌, ◌==◌, nat_lt, nat_le, min, int_lt, int_le, Bool, not, ◌&&◌, ◌||◌, if◌then◌else◌, List, [], take, option_and_then, ◌∷◌, ◌++◌, Some, None, Option, map, position, get_or, slice_set, bit_and, find}
use Rattle.std.specs.Option.{option_map_or, option_map}
use Rattle.std.specs.Ordering.{int_eq}
use Rattle.std.specs.Int.{w32, cast_unsigned}
use Rattle.ffm_model.specs.declared.constants.TheConstants.{PSA_BLOCK, PSA_IPC_CALL, PSA_IPC_CONNECT, PSA_MAX_IOVEC, PSA_SUCCESS, PSA_ERROR_PROGRAMMER_ERROR, PSA_ERROR_CONNECTION_REFUSED, PSA_ERROR_CONNECTION_BUSY}
use Rattle.ffm_model.specs.declared.system.System.{System}
use Rattle.ffm_model.specs.declared.machine.Handle.{Handle}
use Rattle.ffm_model.specs.declared.machine.Message.{Message}
use Rattle.ffm_model.specs.declared.machine.Outcome.TheVariants.{Value, Number, Signals, Got, Blocked, Done}
use Rattle.ffm_model.specs.declared.objects.Span.{Span}
use Rattle.ffm_model.specs.declared.objects.Vectors.{Vectors}
use Rattle.ffm_model.specs.declared.objects.ConnPhase.{ConnPhase}
use Rattle.ffm_model.specs.declared.objects.ConnPhase.TheVariants.{Idle, Error}
use Rattle.ffm_model.specs.declared.objects.ActorPhase.TheVariants as phase
use Rattle.ffm_model.specs.declared.objects.PendingMessage.{PendingMessage}
use Rattle.ffm_model.specs.Actors.{kind_of, is_partition, client_id_of}
use Rattle.ffm_model.specs.Memory.{copy_bytes, valid_buffer, no_span, lengths_written, words_stored}
use Rattle.ffm_model.specs.State.{SpmState, State, phase_of, with_phase, message_held, connection_by_serial, with_connection_phase, without_connection, without_message, with_vectors, with_rhandle, delivered, is_undelivered}
use Rattle.ffm_model.specs.Signals.{signals_of, assigned_to, has_signal_of, is_blocked}
use Rattle.ffm_model.specs.Panic.{panic_effect}
use Rattle.ffm_model.specs.Binding.{◌>>=◌}
use Rattle.ffm_model.specs.ClientCalls.{Move, Effect, move, effect}

-- ---- psa_wait()

-- a PROGRAMMER ERROR where the mask has no signal of the partition; without PSA_BLOCK it answers at once
abbrev pub psa_wait : System → SpmState → ℕ → ℕ → ℕ → Option Move
psa_wait s b a mask timeout =
    if has_signal_of (assigned_to s a) mask
    then Some (if nat_lt timeout PSA_BLOCK then move (Signals (bit_and (signals_of s b a) mask)) b else move Blocked (with_phase b a (phase.Waiting mask)))
    else None

-- ---- psa_get()

-- the service of the partition that has the signal
abbrev pub service_of_signal : System → ℕ → ℕ → Option ℕ
service_of_signal s a signal = position (λ v. (v.owner == a) && (v.signal == signal)) s.services

abbrev pub sizes_of : List Span → List ℕ
sizes_of vs = map (λ (v : Span). v.len) vs

-- psa_msg_t: the message that makes a connection carries no rhandle, nor does one without a connection, and only a request has sizes
abbrev pub shown_message : System → SpmState → PendingMessage → Handle → Message
shown_message s b m h = record {
  kind = m.kind;
  handle = h;
  client_id = client_id_of s m.client.0;
  rhandle = (if int_eq m.kind PSA_IPC_CONNECT then 0 else option_map_or (λ c. c.rhandle) (option_and_then (connection_by_serial b) m.connection) 0);
  in_size = sizes_of m.vectors.input;
  out_size = sizes_of m.vectors.output;
}

-- the twelve words of psa_msg_t as the partition finds them in its memory
abbrev pub message_words : Message → List ℕ
message_words m = cast_unsigned w32 m.kind ∷ (cast_unsigned w32 m.handle.0 ∷ (cast_unsigned w32 m.client_id ∷ (m.rhandle ∷ (m.in_size ++ m.out_size))))

-- how many bytes they take
abbrev pub message_size : ℕ
message_size = 48

abbrev pub get_of : System → State → ℕ → ℕ → Handle → PendingMessage → Effect
get_of s st service msg h m =
    let shown = shown_message s st.spm m h in
    effect (Got shown) (record {
      spm = record st.spm { messages = delivered service h st.spm.messages };
      handles_given = st.handles_given ++ h ∷ [];
      memory = words_stored st.memory msg (message_words shown);
    })

-- the oldest undelivered message of the service that has the signal, under the fresh handle h;
-- a PROGRAMMER ERROR where it isn't one service's signal, no message waits, or the message has no room at msg
abbrev pub psa_get : System → State → ℕ → ℕ → ℕ → Handle → Option Effect
psa_get s st a signal msg h = do
  service ← service_of_signal s a signal
  message ← find (is_undelivered service) st.spm.messages
  if valid_buffer s a msg message_size then Some (get_of s st service msg h message) else None

-- ---- psa_set_rhandle(): it belongs to the connection, not to one message; a PROGRAMMER ERROR where the message has none

abbrev pub psa_set_rhandle : System → SpmState → ℕ → Handle → ℕ → Option Move
psa_set_rhandle s b a h rhandle = option_map (λ n. move Done (with_rhandle b n rhandle)) (option_and_then (λ m. m.connection) (message_held s b a h))

-- ---- psa_read(), psa_skip() and psa_write()

-- the request that has the handle, where the index is a vector's; else a PROGRAMMER ERROR
abbrev pub request_held : System → SpmState → ℕ → Handle → ℕ → Option PendingMessage
request_held s b a h index = do
  message ← message_held s b a h
  if int_le PSA_IPC_CALL message.kind && nat_lt index PSA_MAX_IOVEC then Some message else None

abbrev pub rest_of : Span → ℕ
rest_of v = v.len - v.moved

abbrev pub moved_by : Span → ℕ → Span
moved_by v n = record v { moved = v.moved + n }

abbrev pub input_of : Vectors → ℕ → Span
input_of vectors index = get_or vectors.input index no_span

abbrev pub output_of : Vectors → ℕ → Span
output_of vectors index = get_or vectors.output index no_span

-- n more bytes of an input vector were moved
abbrev pub with_input_moved : Vectors → ℕ → ℕ → Vectors
with_input_moved vectors index n = record vectors { input = slice_set vectors.input index (moved_by (input_of vectors index) n) }

-- n more bytes of an output vector were moved
abbrev pub with_output_moved : Vectors → ℕ → ℕ → Vectors
with_output_moved vectors index n = record vectors { output = slice_set vectors.output index (moved_by (output_of vectors index) n) }

-- the same of a message's vectors
abbrev pub input_at : PendingMessage → ℕ → Span
input_at m index = input_of m.vectors index

abbrev pub output_at : PendingMessage → ℕ → Span
output_at m index = output_of m.vectors index

abbrev pub input_moved : PendingMessage → ℕ → ℕ → Vectors
input_moved m index n = with_input_moved m.vectors index n

abbrev pub output_moved : PendingMessage → ℕ → ℕ → Vectors
output_moved m index n = with_output_moved m.vectors index n

abbrev pub skip_of : SpmState → Handle → ℕ → ℕ → PendingMessage → Move
skip_of b h index len m =
    let n = min len (rest_of (input_at m index)) in
    move (Number n) (with_vectors b h (input_moved m index n))

abbrev pub psa_skip : System → SpmState → ℕ → Handle → ℕ → ℕ → Option Move
psa_skip s b a h index len = option_map (skip_of b h index len) (request_held s b a h index)

-- no more than the rest of the input vector, and as if all bytes were read before the first one is written
abbrev pub read_of : State → Handle → ℕ → ℕ → ℕ → PendingMessage → Effect
read_of st h index buffer len m =
    let v = input_at m index in
    let n = min len (rest_of v) in
    effect (Number n) (record st { spm = with_vectors st.spm h (input_moved m index n); memory = copy_bytes st.memory (v.base + v.moved) buffer n })

abbrev pub psa_read : System → State → ℕ → Handle → ℕ → ℕ → ℕ → Option Effect
psa_read s st a h index buffer len = do
  request ← request_held s st.spm a h index
  if valid_buffer s a buffer len then Some (read_of st h index buffer len request) else None

-- the bytes go after those that were written
abbrev pub write_of : State → Handle → ℕ → ℕ → ℕ → PendingMessage → Effect
write_of st h index buffer len m =
    let v = output_at m index in
    effect Done (record st { spm = with_vectors st.spm h (output_moved m index len); memory = copy_bytes st.memory buffer (v.base + v.moved) len })

-- a PROGRAMMER ERROR where the bytes are more than the rest of the output vector
abbrev pub psa_write : System → State → ℕ → Handle → ℕ → ℕ → ℕ → Option Effect
psa_write s st a h index buffer len = do
  request ← request_held s st.spm a h index
  if valid_buffer s a buffer len && nat_le len (rest_of (output_at request index)) then Some (write_of st h index buffer len request) else None

-- ---- psa_reply()

-- what a service may answer to psa_connect
abbrev pub is_connect_status : ℤ → Bool
is_connect_status z = int_eq z PSA_SUCCESS || (int_eq z PSA_ERROR_CONNECTION_REFUSED || int_eq z PSA_ERROR_CONNECTION_BUSY)

-- n is the serial number of the message's connection
abbrev pub connect_answered : SpmState → ℕ → PendingMessage → ℤ → SpmState
connect_answered b n m status =
    if int_eq status PSA_SUCCESS
    then with_phase (with_connection_phase b n Idle) m.client.0 (phase.Connected n)
    else with_phase (without_connection b n) m.client.0 (phase.Ready (Value status))

-- the status is ignored, and nobody waits where the client panicked
abbrev pub close_answered : SpmState → ℕ → PendingMessage → SpmState
close_answered b n m =
    let freed = without_connection b n in
    if is_blocked (phase_of b m.client.0) then with_phase freed m.client.0 (phase.Ready Done) else freed

-- the connection of a request, where it has one
abbrev pub with_request_phase : SpmState → PendingMessage → ConnPhase → SpmState
with_request_phase b m ph = option_map_or (λ n. with_connection_phase b n ph) m.connection b

-- with PROGRAMMER ERROR the connection takes no further request; a non-secure client is told, and a partition stays Blocked and owes its panic
abbrev pub request_failed : System → SpmState → PendingMessage → SpmState
request_failed s b m =
    let failed = with_request_phase b m Error in
    if is_partition (kind_of s m.client.0) then failed else with_phase failed m.client.0 (phase.Ready (Value PSA_ERROR_PROGRAMMER_ERROR))

abbrev pub request_answered : System → SpmState → PendingMessage → ℤ → SpmState
request_answered s b m status =
    if int_eq status PSA_ERROR_PROGRAMMER_ERROR
    then request_failed s b m
    else with_phase (with_request_phase b m Idle) m.client.0 (phase.Ready (Value status))

-- a message that is no request has a connection
abbrev pub answered : System → SpmState → PendingMessage → ℤ → SpmState
answered s b m status =
    if int_eq m.kind PSA_IPC_CONNECT
    then option_map_or (λ n. connect_answered b n m status) m.connection b
    else (if int_lt m.kind PSA_IPC_CALL then option_map_or (λ n. close_answered b n m) m.connection b else request_answered s b m status)

-- the message is gone, and its client is answered
abbrev pub replied : System → SpmState → Handle → ℤ → PendingMessage → SpmState
replied s b h status m = answered s (without_message b h) m status

-- a partition whose request was answered with PROGRAMMER ERROR panics in the same event
abbrev pub owes_panic : System → PendingMessage → ℤ → Bool
owes_panic s m status = int_le PSA_IPC_CALL m.kind && (int_eq status PSA_ERROR_PROGRAMMER_ERROR && is_partition (kind_of s m.client.0))

-- the given output vectors of a request
abbrev pub outputs_given : PendingMessage → List Span
outputs_given m = take m.vectors.out_len m.vectors.output

abbrev pub reply_of : System → State → Handle → ℤ → PendingMessage → Effect
reply_of s st h status m =
    let b = replied s st.spm h status m in
    effect Done (record st {
      spm = if owes_panic s m status then panic_effect s b m.client.0 else b;
      memory = if int_lt m.kind PSA_IPC_CALL then st.memory else lengths_written st.memory m.vectors.out_vec (outputs_given m);
    })

-- the message that may be answered so: a PROGRAMMER ERROR where the handle is no message's of the partition, or the status is none for psa_connect
abbrev pub reply_to : System → SpmState → ℕ → Handle → ℤ → Option PendingMessage
reply_to s b a h status = do
  message ← message_held s b a h
  if int_eq message.kind PSA_IPC_CONNECT && not (is_connect_status status) then None else Some message

abbrev pub psa_reply : System → State → ℕ → Handle → ℤ → Option Effect
psa_reply s st a h status = option_map (reply_of s st h status) (reply_to s st.spm a h status)
