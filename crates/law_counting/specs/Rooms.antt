-- Room for the connections and messages that an event adds.
-- Source: FF-M 1.0, psa_connect, psa_call and psa_close, and the panic of a partition; pools of the declared size are this profile's.
use Rattle.std.specs.Prelude.{ℕ, ℤ, ◌≡◌, ◌≤◌, ◌+◌, ◌==◌, true, false, length, Some}
use Rattle.ffm_model.specs.declared.system.System.{System}
use Rattle.ffm_model.specs.declared.machine.Handle.{Handle}
use Rattle.ffm_model.specs.declared.objects.OpenConnection.{OpenConnection}
use Rattle.ffm_model.specs.declared.objects.PendingMessage.{PendingMessage}
use Rattle.ffm_model.specs.declared.objects.ActorPhase.TheVariants.{Running}
use Rattle.ffm_model.specs.Actors.{is_stateless, permits}
use Rattle.ffm_model.specs.State.{SpmState, connection_held, in_use, message_held, phase_of}
use Rattle.ffm_model.specs.Panic.{is_dead, panic_effect}
use Rattle.ffm_model.specs.ServiceCalls.{owes_panic, replied}
use Rattle.ffm_model.specs.Names.{capacity, message_capacity}
use Rattle.law_counting.specs.Objects.{allowed}

-- connections may grow to their declared number, and messages by one more for each actor that may use a stateless service
pub record RoomFor (s : System) (b : SpmState) : Type 0 where
  -- psa_connect below the budget adds a connection and a message
  pub connect : (a service : ℕ) → phase_of b a ≡ Running → (in_use b a service == allowed s a service) ≡ false → (length b.connections + 1 ≤ capacity s) × (length b.messages + 1 ≤ message_capacity s)
  -- psa_call and psa_close on a connection that isn't dead add a message
  pub request : (a : ℕ) (h : Handle) (c : OpenConnection) → phase_of b a ≡ Running → connection_held b a h ≡ Some c → is_dead c.phase ≡ false → length b.messages + 1 ≤ message_capacity s
  -- psa_call by a stateless handle adds a message
  pub call : (a service : ℕ) → phase_of b a ≡ Running → is_stateless s service ≡ true → permits s a service ≡ true → length b.messages + 1 ≤ message_capacity s
  -- the panic of a partition at its own call adds a message for each of its connections
  pub panic : (p : ℕ) → phase_of b p ≡ Running → length (panic_effect s b p).messages ≤ message_capacity s
  -- and so does the panic that a reply owes
  pub owed_panic : (p : ℕ) (h : Handle) (status : ℤ) (m : PendingMessage) → message_held s b p h ≡ Some m → owes_panic s m status ≡ true → length (panic_effect s (replied s b h status m) m.client.0).messages ≤ message_capacity s
