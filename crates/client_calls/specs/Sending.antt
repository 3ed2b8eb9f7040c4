-- The messages that the calls of clients make.
-- Source: FF-M 1.0, a message is of one connection; FF-M 1.1 Extensions, or of none where a stateless handle sent it; the slots are this manager's.
use Rattle.std.specs.Prelude.{ℕ, ℤ, false, Some, None}
use Rattle.ffm_model.specs.declared.machine.ActorId.{ActorId}
use Rattle.ffm_model.specs.declared.objects.OpenConnection.{OpenConnection}
use Rattle.ffm_model.specs.declared.objects.Vectors.{Vectors}
use Rattle.object_pools.specs.declared.slot.Slot.{Slot}
use Rattle.spm_tables.specs.declared.item.MessageItem.{MessageItem}
use Rattle.spm_tables.specs.declared.item.QueuedMessage.{QueuedMessage}
use Rattle.spm_tables.specs.TablesView.{queued_as}

-- a message of the connection in that slot, before its delivery
abbrev pub item_on : Slot → OpenConnection → ℤ → Vectors → MessageItem
item_on s c kind v = record { service = c.service; client = c.client; connection = Some s; kind = kind; vectors = v; delivered = false }

-- that message in its queue
abbrev pub message_on : Slot → OpenConnection → ℤ → Vectors → QueuedMessage
message_on s c kind v = queued_as (Some c.serial) (item_on s c kind v)

-- a request by a stateless handle, before its delivery
abbrev pub request_item : ActorId → ℕ → ℤ → Vectors → MessageItem
request_item a service kind v = record { service = service; client = a; connection = None; kind = kind; vectors = v; delivered = false }

-- that request in its queue
abbrev pub request_message : ActorId → ℕ → ℤ → Vectors → QueuedMessage
request_message a service kind v = queued_as None (request_item a service kind v)
