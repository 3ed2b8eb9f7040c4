-- What contracts see of a manager's tables, and the state of the machine that they hold.
-- Source: FF-M 1.0, IPC model and signals; the slots are this manager's.
use Rattle.std.specs.Prelude.{◌≡◌, ℕ, ◌==◌, Bool, ◌&&◌, false, if◌then◌else◌, List, length, Option, Some, None, map, slice_get, option_and_then}
use Rattle.std.specs.List.{filter_map, enumerate_from}
use Rattle.std.specs.Option.{option_map, option_map_or}
use Rattle.ffm_model.specs.declared.system.System.{System}
use Rattle.ffm_model.specs.declared.system.Service.{Service}
use Rattle.ffm_model.specs.declared.system.Source.{Source}
use Rattle.ffm_model.specs.declared.machine.Handle.{Handle}
use Rattle.ffm_model.specs.declared.objects.OpenConnection.{OpenConnection}
use Rattle.ffm_model.specs.declared.objects.PendingMessage.{PendingMessage}
use Rattle.ffm_model.specs.declared.objects.ActorPhase.{ActorPhase}
use Rattle.ffm_model.specs.declared.objects.SourceFlags.{SourceFlags}
use Rattle.ffm_model.specs.Actors.{actor_count}
use Rattle.ffm_model.specs.Names.{capacity, message_capacity}
use Rattle.ffm_model.specs.State.{SpmState, is_undelivered}
use Rattle.object_pools.specs.declared.slot.Slot.{Slot}
use Rattle.object_pools.specs.declared.slot.Held.{Held}
use Rattle.object_pools.specs.Pool.{Places, item_at}
use Rattle.handle_table.specs.declared.handles.Family.TheVariants.{Message}
use Rattle.handle_table.specs.Handles.{handle_at}
use Rattle.handle_table.specs.Table.{connections}
use Rattle.spm_tables.specs.declared.item.MessageItem.{MessageItem}
use Rattle.spm_tables.specs.declared.item.QueuedMessage.{QueuedMessage}
use Rattle.spm_tables.specs.declared.signals.OwnedSignal.{OwnedSignal}

pub record TablesView : Type 0 where
  -- the connections, each under its slot
  pub connections : Places OpenConnection
  -- the messages, each under its slot
  pub messages : Places QueuedMessage
  pub phases : List ActorPhase
  pub doorbells : List Bool
  pub flags : List SourceFlags
  -- whose the signal of each service is, and which
  pub services : List OwnedSignal
  -- and those of the interrupt sources
  pub sources : List OwnedSignal

-- ---- messages

-- the message of a connection with that serial number, or of none
abbrev pub queued_as : Option ℕ → MessageItem → QueuedMessage
queued_as n m = record { service = m.service; client = m.client; connection = m.connection; serial = n; kind = m.kind; vectors = m.vectors; delivered = m.delivered }

-- a message without the serial number
abbrev pub item_of : QueuedMessage → MessageItem
item_of m = record { service = m.service; client = m.client; connection = m.connection; kind = m.kind; vectors = m.vectors; delivered = m.delivered }

-- the serial number of the connection in the slot, where one is there
abbrev pub serial_at : Places OpenConnection → Option Slot → Option ℕ
serial_at pool slot = option_map (λ c. c.serial) (option_and_then (item_at pool) slot)

-- the message of the connection in its slot
abbrev pub queued : Places OpenConnection → MessageItem → QueuedMessage
queued pool m = queued_as (serial_at pool m.connection) m

-- ---- the state

-- a message has the handle of its slot from its delivery on
abbrev pub shown_handle : Bool → Slot → Option Handle
shown_handle delivered s = if delivered then Some (handle_at Message s) else None

abbrev pub message_of : Slot → QueuedMessage → PendingMessage
message_of s m = record { service = m.service; client = m.client; connection = m.serial; kind = m.kind; vectors = m.vectors; handle = shown_handle m.delivered s }

-- a message before its delivery
abbrev pub fresh_message : QueuedMessage → PendingMessage
fresh_message m = record { service = m.service; client = m.client; connection = m.serial; kind = m.kind; vectors = m.vectors; handle = None }

abbrev pub held_message : Held QueuedMessage → PendingMessage
held_message h = message_of h.slot h.item

abbrev pub spm_of : TablesView → SpmState
spm_of d = record {
  connections = connections d.connections;
  connections_made = d.connections.takes;
  messages = map held_message d.messages.held;
  phases = d.phases;
  doorbells = d.doorbells;
  sources = d.flags;
}

-- the message of a slot
abbrev pub message_at : TablesView → Slot → Option PendingMessage
message_at d s = option_map (message_of s) (item_at d.messages s)

-- a message of the service that waits for psa_get
abbrev pub waits_for : ℕ → Held QueuedMessage → Bool
waits_for service h = is_undelivered service (held_message h)

-- ---- the system

-- what no call changes
pub record Shape : Type 0 where
  pub partitions : ℕ
  pub actors : ℕ
  pub services : List OwnedSignal
  pub sources : List OwnedSignal
  -- how many connections there can be at once
  pub connections : ℕ
  -- how many messages there can be at once
  pub messages : ℕ

abbrev pub shape_of : TablesView → Shape
shape_of d = record {
  partitions = length d.doorbells;
  actors = length d.phases;
  services = d.services;
  sources = d.sources;
  connections = length d.connections.generations;
  messages = length d.messages.generations;
}

abbrev pub service_signal : Service → OwnedSignal
service_signal v = record { owner = v.owner; signal = v.signal; flih = false }

abbrev pub source_signal : Source → OwnedSignal
source_signal v = record { owner = v.owner; signal = v.signal; flih = v.flih }

abbrev pub system_shape : System → Shape
system_shape s = record {
  partitions = length s.partitions;
  actors = actor_count s;
  services = map service_signal s.services;
  sources = map source_signal s.sources;
  connections = capacity s;
  messages = message_capacity s;
}

-- whether a source has a first-level handler, which the tables of a system keep
abbrev pub handling : TablesView → ℕ → Bool
handling d i = option_map_or (λ x. x.flih) (slice_get d.sources i) false

-- tables that were made for the system
abbrev pub MadeFor : TablesView → System → Type 0
MadeFor d s = shape_of d ≡ system_shape s

-- ---- signals

-- the signals of a partition, of those that pass the test by their places
abbrev pub asserted : (ℕ → Bool) → List OwnedSignal → ℕ → List ℕ
asserted p xs owner = filter_map (λ e. if (e.1.owner == owner) && p e.0 then Some e.1.signal else None) (enumerate_from 0 xs)

-- whether the signal of that place is the partition's
abbrev pub is_signal_of : List OwnedSignal → ℕ → ℕ → Bool
is_signal_of xs owner place = option_map_or (λ x. x.owner == owner) (slice_get xs place) false
