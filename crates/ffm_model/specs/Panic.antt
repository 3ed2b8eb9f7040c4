-- What the panic of a partition does to everyone else.
-- Source: FF-M 1.0, PROGRAMMER ERROR of a partition; `psa/service.h`, psa_panic. What becomes of its clients is this profile's choice.
use Rattle.std.specs.Prelude.{ℕ, ◌==◌, Bool, true, false, not, ◌&&◌, if◌then◌else◌, List, filter, fold, Option, Some, None, option_and_then, slice_set, get_or, is_none, ◌++◌}
use Rattle.std.specs.List.{filter_map}
use Rattle.std.specs.Option.{option_map}
use Rattle.ffm_model.specs.declared.constants.TheConstants.{PSA_IPC_DISCONNECT, PSA_ERROR_CONNECTION_REFUSED, PSA_ERROR_COMMUNICATION_FAILURE}
use Rattle.ffm_model.specs.declared.system.System.{System}
use Rattle.ffm_model.specs.declared.objects.OpenConnection.{OpenConnection}
use Rattle.ffm_model.specs.declared.objects.ConnPhase.{ConnPhase}
use Rattle.ffm_model.specs.declared.objects.ConnPhase.TheVariants.{Opening, Busy, Closing, Dead}
use Rattle.ffm_model.specs.declared.objects.ActorPhase.{ActorPhase}
use Rattle.ffm_model.specs.declared.objects.ActorPhase.TheVariants.{Ready, Panicked, Ended}
use Rattle.ffm_model.specs.declared.objects.PendingMessage.{PendingMessage}
use Rattle.ffm_model.specs.declared.machine.Outcome.TheVariants.{Value, Done}
use Rattle.ffm_model.specs.Actors.{is_service_of}
use Rattle.ffm_model.specs.Memory.{no_vectors}
use Rattle.ffm_model.specs.State.{SpmState}
use Rattle.ffm_model.specs.Signals.{is_blocked}

abbrev pub is_dead : ConnPhase → Bool
is_dead Dead = true
is_dead _ = false

-- the answer to the client of a lost connection, where it waits for one
abbrev pub client_answered : ConnPhase → List ActorPhase → ℕ → List ActorPhase
client_answered Opening phases client = slice_set phases client (Ready (Value PSA_ERROR_CONNECTION_REFUSED))
client_answered Busy phases client = slice_set phases client (Ready (Value PSA_ERROR_COMMUNICATION_FAILURE))
client_answered Closing phases client = if is_blocked (get_or phases client Ended) then slice_set phases client (Ready Done) else phases
client_answered _ phases client = phases

abbrev pub clients_answered : System → ℕ → List OpenConnection → List ActorPhase → List ActorPhase
clients_answered s p cs phases = fold (λ ps c. if is_service_of s p c.service then client_answered c.phase ps c.client.0 else ps) phases cs

-- a request by a stateless handle to a service of the partition
abbrev pub is_lost_request : System → ℕ → PendingMessage → Bool
is_lost_request s p m = is_none m.connection && is_service_of s p m.service

-- the clients of such requests are answered
abbrev pub callers_answered : System → ℕ → List PendingMessage → List ActorPhase → List ActorPhase
callers_answered s p ms phases = fold (λ ps m. if is_lost_request s p m then slice_set ps m.client.0 (Ready (Value PSA_ERROR_COMMUNICATION_FAILURE)) else ps) phases ms

-- a lost connection that was opening or closing is freed, and any other is dead
abbrev pub lost : ConnPhase → Option ConnPhase
lost Opening = None
lost Closing = None
lost _ = Some Dead

abbrev pub without_service : System → ℕ → OpenConnection → Option OpenConnection
without_service s p c = if is_service_of s p c.service then option_map (λ f. record c { phase = f }) (lost c.phase) else Some c

-- a dead connection of the partition's own is freed, and any other is closing
abbrev pub without_client : ℕ → OpenConnection → Option OpenConnection
without_client p c = if c.client.0 == p then (if is_dead c.phase then None else Some (record c { phase = Closing })) else Some c

-- the message that closes a connection, for which nobody waits
abbrev pub disconnect_message : OpenConnection → PendingMessage
disconnect_message c = record { service = c.service; client = c.client; connection = Some c.serial; kind = PSA_IPC_DISCONNECT; vectors = no_vectors; handle = None }

-- that of one of the partition's own that isn't dead
abbrev pub disconnection : ℕ → OpenConnection → Option PendingMessage
disconnection p c = if (c.client.0 == p) && not (is_dead c.phase) then Some (disconnect_message c) else None

-- the partition is panicked and the clients of its services are answered; its services are gone, and then it is gone as a client
abbrev pub panic_effect : System → SpmState → ℕ → SpmState
panic_effect s b p = record b {
  phases = callers_answered s p b.messages (clients_answered s p b.connections (slice_set b.phases p Panicked));
  connections = filter_map (λ c. option_and_then (without_client p) (without_service s p c)) b.connections;
  messages = filter (λ m. not (is_service_of s p m.service)) b.messages ++ filter_map (λ c. option_and_then (disconnection p) (without_service s p c)) b.connections;
}

-- ---- the same, step by step

-- 1: the partition is panicked, and stays so
abbrev pub panicked_itself : ℕ → SpmState → SpmState
panicked_itself p b = record b { phases = slice_set b.phases p Panicked }

-- 2: the clients of connections to its services are answered, and these connections are dead or freed; so are the callers of requests without a connection
abbrev pub clients_released : System → ℕ → SpmState → SpmState
clients_released s p b = record b {
  phases = callers_answered s p b.messages (clients_answered s p b.connections b.phases);
  connections = filter_map (without_service s p) b.connections;
}

-- 3: all messages to its services are gone
abbrev pub messages_dropped : System → ℕ → SpmState → SpmState
messages_dropped s p b = record b { messages = filter (λ m. not (is_service_of s p m.service)) b.messages }

-- 4: its own connections are freed where dead, and else closing, each with a message for which nobody waits
abbrev pub connections_closed : ℕ → SpmState → SpmState
connections_closed p b = record b {
  connections = filter_map (without_client p) b.connections;
  messages = b.messages ++ filter_map (disconnection p) b.connections;
}

-- the steps in their order; crate ffm_model proves that this is `panic_effect`
abbrev pub panic_steps : System → SpmState → ℕ → SpmState
panic_steps s b p = connections_closed p (messages_dropped s p (clients_released s p (panicked_itself p b)))
