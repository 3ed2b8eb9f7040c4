-- What the panic of a partition leaves of the connections and messages under their slots.
-- Source: FF-M 1.0, PROGRAMMER ERROR of a partition; what becomes of its clients is this profile's choice, and the slots are this manager's.
use Rattle.std.specs.Prelude.{ℕ, not, List, Option, Some, None, filter, is_none, map, slice_set, if◌then◌else◌}
use Rattle.std.specs.List.{filter_map}
use Rattle.std.specs.Option.{option_map}
use Rattle.ffm_model.specs.declared.constants.TheConstants.{PSA_ERROR_COMMUNICATION_FAILURE}
use Rattle.ffm_model.specs.declared.system.System.{System}
use Rattle.ffm_model.specs.declared.objects.OpenConnection.{OpenConnection}
use Rattle.ffm_model.specs.declared.objects.ActorPhase.{ActorPhase}
use Rattle.ffm_model.specs.declared.objects.ActorPhase.TheVariants.{Panicked, Ready}
use Rattle.ffm_model.specs.declared.machine.Outcome.TheVariants.{Value}
use Rattle.ffm_model.specs.declared.objects.ConnPhase.{ConnPhase}
use Rattle.ffm_model.specs.declared.objects.PendingMessage.{PendingMessage}
use Rattle.ffm_model.specs.Actors.{is_service_of}
use Rattle.ffm_model.specs.Panic.{lost, client_answered, clients_answered, callers_answered, without_service, without_client, disconnection}
use Rattle.object_pools.specs.declared.slot.Slot.{Slot}
use Rattle.object_pools.specs.declared.slot.Held.{Held}
use Rattle.object_pools.specs.Pool.{Places, with_item, without}
use Rattle.handle_table.specs.Table.{connections}
use Rattle.spm_tables.specs.declared.item.QueuedMessage.{QueuedMessage}
use Rattle.spm_tables.specs.TablesView.{TablesView, held_message}

module _ {T : Type 0} where
  -- the item of a slot is this one, or it is gone
  abbrev pub with_left : Places T → Slot → Option T → Places T
  with_left p s None = without p s
  with_left p s (Some x) = with_item p s x

  -- what is left of each item, in its slot
  abbrev pub left_by : (Held T → Option (Held T)) → Places T → Places T
  left_by f p = record p { held = filter_map f p.held }

  abbrev pub in_slot : Held T → Option T → Option (Held T)
  in_slot h x = option_map (λ y. record h { item = y }) x

-- a connection in this phase, where there is one
abbrev pub in_phase : OpenConnection → Option ConnPhase → Option OpenConnection
in_phase c phase = option_map (λ f. record c { phase = f }) phase

abbrev pub held_without_service : System → ℕ → Held OpenConnection → Option (Held OpenConnection)
held_without_service s p h = in_slot h (without_service s p h.item)

abbrev pub held_without_client : ℕ → Held OpenConnection → Option (Held OpenConnection)
held_without_client p h = in_slot h (without_client p h.item)

-- the service of one connection is gone, and its client is answered
abbrev pub with_lost : TablesView → Held OpenConnection → TablesView
with_lost d h = record d { connections = with_left d.connections h.slot (in_phase h.item (lost h.item.phase)); phases = client_answered h.item.phase d.phases h.item.client.0 }

-- the partition's services are gone
abbrev pub without_services : System → ℕ → TablesView → TablesView
without_services s p d = record d { connections = left_by (held_without_service s p) d.connections; phases = clients_answered s p (connections d.connections) d.phases }

-- the client of a lost message is answered where that is of no connection
abbrev pub caller_answered : QueuedMessage → List ActorPhase → List ActorPhase
caller_answered m phases = if is_none m.serial then slice_set phases m.client.0 (Ready (Value PSA_ERROR_COMMUNICATION_FAILURE)) else phases

-- one message is lost
abbrev pub with_dropped : TablesView → Held QueuedMessage → TablesView
with_dropped d h = record d { messages = without d.messages h.slot; phases = caller_answered h.item d.phases }

-- the messages to the partition's services are gone, and the clients of those that are of no connection are answered
abbrev pub without_messages : System → ℕ → TablesView → TablesView
without_messages s p d = record d {
  messages = record d.messages { held = filter (λ h. not (is_service_of s p h.item.service)) d.messages.held };
  phases = callers_answered s p (map held_message d.messages.held) d.phases;
}

-- the partition is Panicked and its services are gone; it is still there as a client
abbrev pub as_client : System → ℕ → TablesView → TablesView
as_client s p d = without_messages s p (without_services s p (record d { phases = slice_set d.phases p Panicked }))

-- the messages that close the partition's own connections that aren't dead
abbrev pub disconnect_messages : ℕ → Places OpenConnection → List PendingMessage
disconnect_messages p pool = filter_map (disconnection p) (connections pool)
