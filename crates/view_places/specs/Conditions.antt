-- The conditions under which each call is a PROGRAMMER ERROR: the words of each, and its test in the machine's terms.
-- Source: FF-M 1.0 and 1.1 Extensions, as the machine's definitions of the calls have them.
use Rattle.std.specs.Prelude.{ℕ, ℤ, pos, ◌+◌, ◌*◌, ◌≡◌, nat_lt, nat_le, int_lt, int_le, Bool, true, false, not, ◌&&◌, ◌||◌, if◌then◌else◌, List, [], ◌∷◌, ◌++◌, length, find, get_or, Option, None, Some, is_none, is_some, codes}
use Rattle.std.specs.List.{list_all, list_any}
use Rattle.std.specs.Option.{option_map_or}
use Rattle.std.specs.Ordering.{int_eq}
use Rattle.ffm_model.specs.declared.constants.TheConstants.{PSA_IPC_CALL, PSA_IPC_CONNECT, PSA_MAX_IOVEC, PSA_NULL_HANDLE}
use Rattle.ffm_model.specs.declared.groups.Group.{Group}
use Rattle.ffm_model.specs.declared.groups.Group.TheVariants as group
use Rattle.ffm_model.specs.declared.machine.Call.{Call}
use Rattle.ffm_model.specs.declared.machine.Call.TheVariants as call
use Rattle.ffm_model.specs.declared.machine.Handle.{Handle}
use Rattle.ffm_model.specs.declared.machine.Sid.{Sid}
use Rattle.ffm_model.specs.declared.objects.OpenConnection.{OpenConnection}
use Rattle.ffm_model.specs.declared.objects.PendingMessage.{PendingMessage}
use Rattle.ffm_model.specs.declared.system.System.{System}
use Rattle.ffm_model.specs.Accesses.{is_access_size}
use Rattle.ffm_model.specs.Actors.{is_stateless, kind_of, permits, service_at, stateless_at, stateless_index}
use Rattle.ffm_model.specs.Calls.{has_call, programmer_error}
use Rattle.ffm_model.specs.ClientCalls.{is_busy, refuses_requests, takes_version}
use Rattle.ffm_model.specs.Groups.{group_of}
use Rattle.ffm_model.specs.Memory.{may_read, may_write, valid_buffer}
use Rattle.ffm_model.specs.ServiceCalls.{is_connect_status, message_size, output_at, rest_of, service_of_signal}
use Rattle.ffm_model.specs.SignalCalls.{has_flih, source_of_signal}
use Rattle.ffm_model.specs.Signals.{assigned_to, has_signal_of}
use Rattle.ffm_model.specs.State.{SpmState, State, connection_held, flags_at, is_undelivered, message_held}
use Rattle.view_places.specs.declared.condition.Condition.{Condition}

-- the words of a condition, and whether it holds; none where that isn't looked at
abbrev pub Told : Type 0
Told = List ℕ × Option Bool

abbrev pub told : Condition → Told
told c = (c.words.now, c.holds)

abbrev pub looked : List ℕ → Bool → Told
looked words holds = (words, Some holds)

-- ---- calls of clients

abbrev pub connect_conditions : System → ℕ → Sid → ℕ → List Told
connect_conditions s a sid version =
    let service = service_at s sid in
    looked (codes "no service has the SID") (is_none service)
    ∷ looked (codes "the service is stateless") (option_map_or (is_stateless s) service false)
    ∷ looked (codes "the caller isn't permitted") (option_map_or (λ i. not (permits s a i)) service false)
    ∷ looked (codes "the version doesn't fit") (option_map_or (λ i. not (takes_version s i version)) service false)
    ∷ []

-- the connection that a handle names: a stateless handle names none
abbrev pub connection_named : SpmState → ℕ → Handle → Option OpenConnection
connection_named b a h = option_map_or (λ index. None) (stateless_index h) (connection_held b a h)

-- a connection of the caller, or a stateless service that it may use
abbrev pub names_own : System → SpmState → ℕ → Handle → Bool
names_own s b a h = option_map_or (λ index. option_map_or (permits s a) (stateless_at s index) false) (stateless_index h) (is_some (connection_held b a h))

-- more vectors than there may be, or descriptors in no valid buffer; what the descriptors say isn't looked at
abbrev pub are_arrays_wrong : System → ℕ → ℕ → ℕ → ℕ → ℕ → Bool
are_arrays_wrong s a in_vec in_len out_vec out_len =
    not (nat_le (in_len + out_len) PSA_MAX_IOVEC) || (not (valid_buffer s a in_vec (8 * in_len)) || not (valid_buffer s a out_vec (8 * out_len)))

abbrev pub invoke_conditions : System → SpmState → ℕ → Handle → ℤ → Bool → List Told
invoke_conditions s b a h kind are_wrong =
    looked (codes "neither a handle of the caller nor a stateless handle of the caller") (not (names_own s b a h))
    ∷ looked (codes "the connection is Busy or Error") (option_map_or (λ c. refuses_requests c.phase) (connection_named b a h) false)
    ∷ looked (codes "the kind is negative") (int_lt kind (pos 0))
    ∷ (codes "a rule of the vectors is broken", if are_wrong then Some true else None)
    ∷ []

-- handle 0 names no connection
abbrev pub connection_closed : SpmState → ℕ → Handle → Option OpenConnection
connection_closed b a h = if int_eq h.0 PSA_NULL_HANDLE then None else connection_held b a h

abbrev pub close_conditions : SpmState → ℕ → Handle → List Told
close_conditions b a h =
    looked (codes "neither handle 0 nor a handle of the caller") (not (int_eq h.0 PSA_NULL_HANDLE) && is_none (connection_closed b a h))
    ∷ looked (codes "the connection is Busy") (option_map_or (λ c. is_busy c.phase) (connection_closed b a h) false)
    ∷ []

abbrev pub client_conditions : System → SpmState → ℕ → Call → List Told
client_conditions s b a (call.Connect sid version) = connect_conditions s a sid version
client_conditions s b a (call.Invoke h kind in_vec in_len out_vec out_len) = invoke_conditions s b a h kind (are_arrays_wrong s a in_vec in_len out_vec out_len)
client_conditions s b a (call.Close h) = close_conditions b a h
client_conditions s b a _ = []

-- ---- calls that take and answer messages

abbrev pub wait_conditions : System → ℕ → ℕ → List Told
wait_conditions s a mask = looked (codes "the mask has no signal that the caller has at all") (not (has_signal_of (assigned_to s a) mask)) ∷ []

abbrev pub get_conditions : System → SpmState → ℕ → ℕ → ℕ → List Told
get_conditions s b a signal msg =
    let service = service_of_signal s a signal in
    looked (codes "the word isn't the signal of one of the caller's services") (is_none service)
    ∷ looked (codes "no message waits for that service") (option_map_or (λ i. is_none (find (is_undelivered i) b.messages)) service false)
    ∷ looked (codes "the 48 bytes at msg are no valid buffer") (not (valid_buffer s a msg message_size))
    ∷ []

abbrev pub set_rhandle_conditions : Option PendingMessage → List Told
set_rhandle_conditions message =
    looked (codes "no handle of the caller") (is_none message)
    ∷ looked (codes "the message has no connection") (option_map_or (λ m. is_none m.connection) message false)
    ∷ []

abbrev pub reply_conditions : Option PendingMessage → ℤ → List Told
reply_conditions message status =
    looked (codes "no handle of the caller") (is_none message)
    ∷ looked (codes "at a message of kind -1, a status other than 0, -130, -131") (option_map_or (λ m. int_eq m.kind PSA_IPC_CONNECT && not (is_connect_status status)) message false)
    ∷ []

abbrev pub service_conditions : System → SpmState → ℕ → Call → List Told
service_conditions s b a (call.Wait mask timeout) = wait_conditions s a mask
service_conditions s b a (call.Get signal msg) = get_conditions s b a signal msg
service_conditions s b a (call.SetRhandle h rhandle) = set_rhandle_conditions (message_held s b a h)
service_conditions s b a (call.Reply h status) = reply_conditions (message_held s b a h) status.0
service_conditions s b a _ = []

-- ---- calls that move bytes of a request

abbrev pub request_conditions : Option PendingMessage → ℕ → List Told
request_conditions message index =
    looked (codes "no handle of the caller") (is_none message)
    ∷ looked (codes "the message isn't a request") (option_map_or (λ m. not (int_le PSA_IPC_CALL m.kind)) message false)
    ∷ looked (codes "the index is 4 or more") (not (nat_lt index PSA_MAX_IOVEC))
    ∷ []

abbrev pub buffer_condition : System → ℕ → ℕ → ℕ → Told
buffer_condition s a buffer len = looked (codes "(buffer, len) is no valid buffer") (not (valid_buffer s a buffer len))

abbrev pub rest_condition : Option PendingMessage → ℕ → ℕ → Told
rest_condition message index len = looked (codes "len exceeds the rest of the output vector") (option_map_or (λ m. not (nat_le len (rest_of (output_at m index)))) message false)

abbrev pub transfer_conditions : System → SpmState → ℕ → Call → List Told
transfer_conditions s b a (call.Read h index buffer len) = request_conditions (message_held s b a h) index ++ buffer_condition s a buffer len ∷ []
transfer_conditions s b a (call.Skip h index len) = request_conditions (message_held s b a h) index
transfer_conditions s b a (call.Write h index buffer len) = request_conditions (message_held s b a h) index ++ buffer_condition s a buffer len ∷ rest_condition (message_held s b a h) index len ∷ []
transfer_conditions s b a _ = []

-- ---- doorbells and interrupts

abbrev pub notify_conditions : System → ℤ → List Told
notify_conditions s id = looked (codes "no partition has the ID") (not (int_le (pos 1) id && int_le id (pos (length s.partitions)))) ∷ []

abbrev pub clear_conditions : SpmState → ℕ → List Told
clear_conditions b a = looked (codes "the caller's doorbell isn't asserted") (not (get_or b.doorbells a false)) ∷ []

abbrev pub asserted_condition : SpmState → Option ℕ → Told
asserted_condition b source = looked (codes "the word isn't the asserted signal of one of the caller's sources") (not (option_map_or (λ i. (flags_at b i).asserted) source false))

abbrev pub first_level_condition : System → Option ℕ → Told
first_level_condition s source = looked (codes "the source has a first-level handler") (option_map_or (has_flih s) source false)

abbrev pub second_level_condition : System → Option ℕ → Told
second_level_condition s source = looked (codes "the source has a second-level handler") (option_map_or (λ i. not (has_flih s i)) source false)

abbrev pub enable_conditions : System → ℕ → ℕ → List Told
enable_conditions s a signal = looked (codes "the word isn't the signal of one of the caller's sources") (is_none (source_of_signal s a signal)) ∷ []

-- the place of the source with a number
abbrev pub source_numbered : System → ℕ → Option ℕ
source_numbered s source = if nat_lt source (length s.sources) then Some source else None

abbrev pub number_condition : System → ℕ → Told
number_condition s source = looked (codes "no source has the number") (is_none (source_numbered s source))

abbrev pub signal_conditions : System → SpmState → ℕ → Call → List Told
signal_conditions s b a (call.Notify id) = notify_conditions s id
signal_conditions s b a call.Clear = clear_conditions b a
signal_conditions s b a (call.Eoi signal) = asserted_condition b (source_of_signal s a signal) ∷ first_level_condition s (source_of_signal s a signal) ∷ []
signal_conditions s b a (call.ResetSignal signal) = asserted_condition b (source_of_signal s a signal) ∷ second_level_condition s (source_of_signal s a signal) ∷ []
signal_conditions s b a (call.IrqEnable signal) = enable_conditions s a signal
signal_conditions s b a (call.IrqDisable signal) = enable_conditions s a signal
signal_conditions s b a (call.Raise source) = number_condition s source ∷ first_level_condition s (source_numbered s source) ∷ []
signal_conditions s b a (call.Fire source result) =
    number_condition s source ∷ second_level_condition s (source_numbered s source) ∷ looked (codes "the result is neither 0 nor 1") (not (nat_le result 1)) ∷ []
signal_conditions s b a _ = []

-- ---- loads, stores and the rest

abbrev pub size_condition : ℕ → Told
size_condition size = looked (codes "the size isn't 1, 2 or 4") (not (is_access_size size))

abbrev pub memory_conditions : System → ℕ → Call → List Told
memory_conditions s a (call.Load address size) = size_condition size ∷ looked (codes "the caller may not read the range") (not (may_read s a address size)) ∷ []
memory_conditions s a (call.Store address size value) = size_condition size ∷ looked (codes "the caller may not write the range") (not (may_write s a address size)) ∷ []
memory_conditions s a _ = []

abbrev pub actor_conditions : Call → List Told
actor_conditions call.Panic = looked (codes "always") true ∷ []
actor_conditions _ = []

abbrev pub group_conditions : Group → System → SpmState → ℕ → Call → List Told
group_conditions group.Client s b a c = client_conditions s b a c
group_conditions group.Service s b a c = service_conditions s b a c
group_conditions group.Transfer s b a c = transfer_conditions s b a c
group_conditions group.Signal s b a c = signal_conditions s b a c
group_conditions group.Memory s b a c = memory_conditions s a c
group_conditions group.Actor s b a c = actor_conditions c

-- the conditions of a call
abbrev pub conditions_of : System → SpmState → ℕ → Call → List Told
conditions_of s b a c =
    if has_call (kind_of s a) c
    then group_conditions (group_of c) s b a c
    else looked (codes "the actor's kind doesn't have the call") true ∷ []

-- ---- what they say

-- it is said to hold
abbrev pub holds : Told → Bool
holds c = option_map_or (λ h. h) c.1 false

-- it is said not to hold
abbrev pub fails : Told → Bool
fails c = option_map_or not c.1 false

-- a call is a PROGRAMMER ERROR where a condition is said to hold, and none where all are said not to
pub record SayWhen (s : System) (st : State) (a : ℕ) (c : Call) (conditions : List Told) : Type 0 where
  pub refused : list_any holds conditions ≡ true → programmer_error s st a c ≡ true
  pub allowed : list_all fails conditions ≡ true → programmer_error s st a c ≡ false
