-- How the messages of a state belong to its connections, sentence by sentence.
-- Source: FF-M 1.0, the life of a connection and of a message; `psa/service.h`, the kinds of psa_msg_t.
use Rattle.std.specs.Prelude.{ℕ, ℤ, ◌≡◌, ◌+◌, ◌≤◌, ◌==◌, int_le, Bool, true, false, not, ◌&&◌, ◌||◌, if◌then◌else◌, count_by, is_none}
use Rattle.std.specs.List.{All}
use Rattle.std.specs.Option.{option_map_or}
use Rattle.std.specs.Ordering.{int_eq}
use Rattle.ffm_model.specs.declared.constants.TheConstants.{PSA_IPC_CALL, PSA_IPC_CONNECT, PSA_IPC_DISCONNECT}
use Rattle.ffm_model.specs.declared.objects.OpenConnection.{OpenConnection}
use Rattle.ffm_model.specs.declared.objects.PendingMessage.{PendingMessage}
use Rattle.ffm_model.specs.declared.objects.ConnPhase.{ConnPhase}
use Rattle.ffm_model.specs.declared.objects.ConnPhase.TheVariants.{Opening, Busy, Closing}
use Rattle.ffm_model.specs.declared.objects.ActorPhase.{ActorPhase}
use Rattle.ffm_model.specs.declared.objects.ActorPhase.TheVariants.{Blocked, Connected, Panicked}
use Rattle.ffm_model.specs.declared.system.System.{System}
use Rattle.ffm_model.specs.Actors.{is_stateless, permits}
use Rattle.ffm_model.specs.State.{SpmState, phase_of}
use Rattle.law_counting.specs.Objects.{is_awaited, is_opening, is_joining, awaited_of, called_by, accepted_as}

-- a connection that is Opening has the message of its psa_connect, one that is Busy a request, and one that is Closing its disconnection
abbrev pub kind_fits : ConnPhase → ℤ → Bool
kind_fits Opening kind = int_eq kind PSA_IPC_CONNECT
kind_fits Busy kind = int_le PSA_IPC_CALL kind
kind_fits Closing kind = int_eq kind PSA_IPC_DISCONNECT
kind_fits _ kind = false

-- the message is one of the connection with a serial number
abbrev pub is_numbered : ℕ → PendingMessage → Bool
is_numbered n m = option_map_or (λ k. n == k) m.connection false

-- the message is one of the connection
abbrev pub is_message_of : OpenConnection → PendingMessage → Bool
is_message_of c m = is_numbered c.serial m && ((c.client.0 == m.client.0) && ((c.service == m.service) && kind_fits c.phase m.kind))

-- the client of a connection that still has a message waits for the answer; one that panicked does not, and its connections are closing
abbrev pub client_waits : ConnPhase → ActorPhase → Bool
client_waits ph Blocked = true
client_waits Closing Panicked = true
client_waits _ _ = false

abbrev pub is_disconnection : PendingMessage → Bool
is_disconnection m = int_eq m.kind PSA_IPC_DISCONNECT

-- what holds of a message that has no connection: it is a request, to a stateless service, and its client may use that service and is Blocked
pub record IsCall (s : System) (b : SpmState) (m : PendingMessage) : Type 0 where
  pub request : int_le PSA_IPC_CALL m.kind ≡ true
  pub stateless : is_stateless s m.service ≡ true
  pub permitted : permits s m.client.0 m.service ≡ true
  pub blocked : phase_of b m.client.0 ≡ Blocked

pub record MessagesPair (s : System) (b : SpmState) : Type 0 where
  -- each message that has a connection belongs to exactly one, that is Opening, Busy or Closing, with its client and service and a kind that fits the phase
  pub belongs : All (λ m. count_by (λ c. is_message_of c m) b.connections ≡ (if is_none m.connection then 0 else 1)) b.messages
  -- each other message is a request by a stateless handle
  pub called : All (λ m. is_none m.connection ≡ true → IsCall s b m) b.messages
  -- each connection that is Opening, Busy or Closing has exactly one message, and any other has none
  pub carries : All (λ c. count_by (is_numbered c.serial) b.messages ≡ (if is_awaited c.phase then 1 else 0)) b.connections
  -- the client of each such connection is Blocked, or it is Panicked and the connection is Closing
  pub waits : All (λ c. is_awaited c.phase ≡ true → client_waits c.phase (phase_of b c.client.0) ≡ true) b.connections
  -- a Blocked actor owns exactly one such connection or is the client of exactly one such request, and not both
  pub blocked : (a : ℕ) → phase_of b a ≡ Blocked → count_by (awaited_of a) b.connections + count_by (called_by a) b.messages ≡ 1
  -- a Connected actor owns the connection of its serial number, which is Idle or Dead
  pub joined : (a serial : ℕ) → phase_of b a ≡ Connected serial → count_by (accepted_as a serial) b.connections ≡ 1
  -- a connection has no handle exactly where it is Opening or its client is Connected to it
  pub shown : All (λ c. is_none c.handle ≡ (is_opening c.phase || is_joining (phase_of b c.client.0) c.serial)) b.connections
  -- the client of a message that is no disconnection is Blocked
  pub asked : All (λ m. is_disconnection m ≡ false → phase_of b m.client.0 ≡ Blocked) b.messages
  -- and no two such messages have one client
  pub alone : (a : ℕ) → count_by (λ m. (m.client.0 == a) && not (is_disconnection m)) b.messages ≤ 1
