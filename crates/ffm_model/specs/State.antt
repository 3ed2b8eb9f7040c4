-- The state of the machine: connections, messages, what each actor does, doorbells, interrupts, memory.
-- Source: FF-M 1.0, IPC model: a connection from psa_connect to psa_close, a message from its making to psa_reply.
-- There is no slot, queue or stored signal here; those belong to a manager, not to the machine.
use Rattle.std.specs.Prelude.{ℕ, ℤ, pos, ◌+◌, ◌≤◌, ◌==◌, int_le, Bool, false, not, ◌&&◌, if◌then◌else◌, List, [], ◌∷◌, ◌++◌, length, Some, None, Option, map, replicate, filter, find, count_by, slice_set, is_none, get_or}
use Rattle.std.specs.List.{list_any}
use Rattle.std.specs.Option.{option_map_or}
use Rattle.std.specs.Ordering.{int_eq}
use Rattle.ffm_model.specs.declared.system.System.{System}
use Rattle.ffm_model.specs.declared.objects.OpenConnection.{OpenConnection}
use Rattle.ffm_model.specs.declared.objects.PendingMessage.{PendingMessage}
use Rattle.ffm_model.specs.declared.objects.ConnPhase.{ConnPhase}
use Rattle.ffm_model.specs.declared.objects.ActorPhase.{ActorPhase}
use Rattle.ffm_model.specs.declared.objects.ActorPhase.TheVariants.{Running, Ended}
use Rattle.ffm_model.specs.declared.objects.SourceFlags.{SourceFlags}
use Rattle.ffm_model.specs.declared.objects.Vectors.{Vectors}
use Rattle.ffm_model.specs.declared.machine.Handle.{Handle}
use Rattle.ffm_model.specs.Actors.{actor_count, is_service_of}
use Rattle.ffm_model.specs.Memory.{ByteMap}

-- the state without its memory and without the handles of the past
pub record SpmState : Type 0 where
  -- in the order of their making
  pub connections : List OpenConnection
  pub connections_made : ℕ
  -- those of all services, in order of arrival; a message is delivered where it has a handle
  pub messages : List PendingMessage
  pub phases : List ActorPhase
  pub doorbells : List Bool
  pub sources : List SourceFlags

pub record State : Type 0 where
  pub spm : SpmState
  -- all handles that events have shown
  pub handles_given : List Handle
  pub memory : ByteMap

-- nothing is connected or sent, every actor runs, doorbells are clear, and sources are enabled where the system says so
abbrev pub opening_spm : System → SpmState
opening_spm s = record {
  connections = [];
  connections_made = 0;
  messages = [];
  phases = replicate (actor_count s) Running;
  doorbells = replicate (length s.partitions) false;
  sources = map (λ x. record { enabled = x.enabled; pending = false; asserted = false }) s.sources;
}

abbrev pub opening : System → ByteMap → State
opening s m = record { spm = opening_spm s; handles_given = []; memory = m }

-- ---- actors

abbrev pub phase_of : SpmState → ℕ → ActorPhase
phase_of b a = get_or b.phases a Ended

abbrev pub with_phase : SpmState → ℕ → ActorPhase → SpmState
with_phase b a phase = record b { phases = slice_set b.phases a phase }

-- ---- handles

abbrev pub handle_eq : Handle → Handle → Bool
handle_eq h k = int_eq h.0 k.0

abbrev pub has_handle : Option Handle → Handle → Bool
has_handle shown h = option_map_or (λ k. handle_eq k h) shown false

-- a positive number below 0x40000000 that no event has shown yet
abbrev pub fresh : State → Handle → Bool
fresh st h = int_le (pos 1) h.0 && int_le h.0 (pos 0x3fffffff) && not (list_any (handle_eq h) st.handles_given)

-- ---- connections

-- the serial numbers rise, from one that is at least `low`, and `made` is above them all
abbrev pub Rises : ℕ → List OpenConnection → ℕ → Type 0
Rises low [] made = low ≤ made
Rises low (c ∷ cs) made = (low ≤ c.serial) × Rises (c.serial + 1) cs made

-- the connections of a client to a service, in any phase
abbrev pub in_use : SpmState → ℕ → ℕ → ℕ
in_use b client service = count_by (λ c. (c.client.0 == client) && (c.service == service)) b.connections

-- a client holds a connection by the handle that it was told
abbrev pub connection_held : SpmState → ℕ → Handle → Option OpenConnection
connection_held b client h = find (λ c. (c.client.0 == client) && has_handle c.handle h) b.connections

abbrev pub connection_by_serial : SpmState → ℕ → Option OpenConnection
connection_by_serial b serial = find (λ c. c.serial == serial) b.connections

abbrev pub phase_put : ℕ → ConnPhase → OpenConnection → OpenConnection
phase_put serial phase c = if c.serial == serial then record c { phase = phase } else c

abbrev pub with_connection_phase : SpmState → ℕ → ConnPhase → SpmState
with_connection_phase b serial phase = record b { connections = map (phase_put serial phase) b.connections }

abbrev pub rhandle_put : ℕ → ℕ → OpenConnection → OpenConnection
rhandle_put serial rhandle c = if c.serial == serial then record c { rhandle = rhandle } else c

abbrev pub with_rhandle : SpmState → ℕ → ℕ → SpmState
with_rhandle b serial rhandle = record b { connections = map (rhandle_put serial rhandle) b.connections }

abbrev pub handle_put : ℕ → Handle → OpenConnection → OpenConnection
handle_put serial h c = if c.serial == serial then record c { handle = Some h } else c

abbrev pub with_connection_handle : SpmState → ℕ → Handle → SpmState
with_connection_handle b serial h = record b { connections = map (handle_put serial h) b.connections }

abbrev pub without_connection : SpmState → ℕ → SpmState
without_connection b serial = record b { connections = filter (λ c. not (c.serial == serial)) b.connections }

-- ---- messages

-- a partition holds a message to one of its services by the handle that psa_get gave
abbrev pub message_held : System → SpmState → ℕ → Handle → Option PendingMessage
message_held s b p h = find (λ m. is_service_of s p m.service && has_handle m.handle h) b.messages

abbrev pub without_message : SpmState → Handle → SpmState
without_message b h = record b { messages = filter (λ m. not (has_handle m.handle h)) b.messages }

abbrev pub vectors_put : Handle → Vectors → PendingMessage → PendingMessage
vectors_put h v m = if has_handle m.handle h then record m { vectors = v } else m

abbrev pub with_vectors : SpmState → Handle → Vectors → SpmState
with_vectors b h v = record b { messages = map (vectors_put h v) b.messages }

abbrev pub is_undelivered : ℕ → PendingMessage → Bool
is_undelivered service m = is_none m.handle && (m.service == service)

-- the first undelivered message of the service gets the handle
abbrev pub delivered : ℕ → Handle → List PendingMessage → List PendingMessage
delivered service h [] = []
delivered service h (m ∷ ms) = if is_undelivered service m then record m { handle = Some h } ∷ ms else m ∷ delivered service h ms

-- a message of a connection goes last
abbrev pub with_message : SpmState → OpenConnection → ℤ → Vectors → SpmState
with_message b c kind v = record b { messages = b.messages ++ record { service = c.service; client = c.client; connection = Some c.serial; kind = kind; vectors = v; handle = None } ∷ [] }

-- a request by a stateless handle goes last; it has no connection
abbrev pub with_request : SpmState → ℕ → ℕ → ℤ → Vectors → SpmState
with_request b a service kind v = record b { messages = b.messages ++ record { service = service; client = record { 0 = a }; connection = None; kind = kind; vectors = v; handle = None } ∷ [] }

-- ---- interrupt sources

abbrev pub no_flags : SourceFlags
no_flags = record { enabled = false; pending = false; asserted = false }

abbrev pub flags_at : SpmState → ℕ → SourceFlags
flags_at b i = get_or b.sources i no_flags
