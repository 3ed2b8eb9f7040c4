-- What holds of each state of a run: how connections, messages, phases, budgets and handles count against each other.
-- Source: FF-M 1.0, the life of a connection from psa_connect to psa_close and of a message from its call to psa_reply; that the
-- declared numbers of connections suffice is this profile's law.
use Rattle.std.specs.Prelude.{ℕ, ℤ, zero, suc, pos, negsuc, ◌≡◌, ◌+◌, ◌≤◌, ◌==◌, int_le, Bool, true, false, not, ◌&&◌, ◌||◌, List, count_by, is_none, get_or}
use Rattle.std.specs.Option.{option_map_or, unwrap_or}
use Rattle.ffm_model.specs.declared.constants.TheConstants.{PSA_IPC_CALL}
use Rattle.ffm_model.specs.declared.system.System.{System}
use Rattle.ffm_model.specs.declared.machine.Handle.{Handle}
use Rattle.ffm_model.specs.declared.objects.OpenConnection.{OpenConnection}
use Rattle.ffm_model.specs.declared.objects.PendingMessage.{PendingMessage}
use Rattle.ffm_model.specs.declared.objects.ConnPhase.{ConnPhase}
use Rattle.ffm_model.specs.declared.objects.ConnPhase.TheVariants.{Opening, Idle, Busy, Closing, Dead}
use Rattle.ffm_model.specs.declared.objects.ActorPhase.{ActorPhase}
use Rattle.ffm_model.specs.declared.objects.ActorPhase.TheVariants.{Blocked, Connected, Ended, Panicked}
use Rattle.ffm_model.specs.Actors.{budget_of, is_stateless, permits}
use Rattle.ffm_model.specs.State.{Rises, SpmState, State, in_use, has_handle, handle_eq}

-- how many connections an actor may have to a service, and 0 where it may not use it
abbrev pub allowed : System → ℕ → ℕ → ℕ
allowed s a service = unwrap_or (budget_of s a service) 0

-- ---- phases of connections

-- the service still owes an answer
abbrev pub is_awaited : ConnPhase → Bool
is_awaited Opening = true
is_awaited Busy = true
is_awaited Closing = true
is_awaited _ = false

-- and its client waits for that answer itself
abbrev pub is_asking : ConnPhase → Bool
is_asking Opening = true
is_asking Busy = true
is_asking _ = false

-- it was accepted, and nothing was asked of it since
abbrev pub is_accepted : ConnPhase → Bool
is_accepted Idle = true
is_accepted Dead = true
is_accepted _ = false

abbrev pub is_opening : ConnPhase → Bool
is_opening Opening = true
is_opening _ = false

-- the phase of the connection of a message: PSA_IPC_CONNECT, PSA_IPC_DISCONNECT, a request's kind from 0 up, and for any other kind a phase that has no message
abbrev pub phase_for : ℤ → ConnPhase
phase_for (pos n) = Busy
phase_for (negsuc zero) = Opening
phase_for (negsuc (suc zero)) = Closing
phase_for (negsuc (suc (suc n))) = Dead

-- ---- messages pair off with the connections whose service owes an answer

-- a test of a serial number, a client, a service and a phase
abbrev pub Mark : Type 0
Mark = ℕ → ℕ → ℕ → ConnPhase → Bool

-- a message of a connection
abbrev pub message_marked : Mark → PendingMessage → Bool
message_marked t m = option_map_or (λ n. t n m.client.0 m.service (phase_for m.kind)) m.connection false

abbrev pub connection_marked : Mark → OpenConnection → Bool
connection_marked t c = is_awaited c.phase && t c.serial c.client.0 c.service c.phase

-- ---- requests by stateless handles, which have no connection

-- the actor's
abbrev pub called_by : ℕ → PendingMessage → Bool
called_by a m = is_none m.connection && (m.client.0 == a)

-- a message without a connection that is no request, or not to a stateless service that its client may use
abbrev pub wrongly_called : System → PendingMessage → Bool
wrongly_called s m = is_none m.connection && not (int_le PSA_IPC_CALL m.kind && (is_stateless s m.service && permits s m.client.0 m.service))

-- ---- the connections of an actor, by its phase

abbrev pub awaited_of : ℕ → OpenConnection → Bool
awaited_of a c = (c.client.0 == a) && is_awaited c.phase

abbrev pub asking_of : ℕ → OpenConnection → Bool
asking_of a c = (c.client.0 == a) && is_asking c.phase

abbrev pub accepted_as : ℕ → ℕ → OpenConnection → Bool
accepted_as a n c = (c.serial == n) && ((c.client.0 == a) && is_accepted c.phase)

-- awaited and asking count its requests by stateless handles too
-- a Blocked actor awaits one answer; one that is Panicked asks nothing itself; one that is Connected owns the accepted connection of that serial number; none but a Blocked or a Panicked one awaits an answer
abbrev pub PhaseFits : ActorPhase → ℕ → ℕ → (ℕ → ℕ) → Type 0
PhaseFits Blocked awaited asking accepted = awaited ≡ 1
PhaseFits Panicked awaited asking accepted = asking ≡ 0
PhaseFits (Connected serial) awaited asking accepted = (awaited ≡ 0) × (accepted serial ≡ 1)
PhaseFits _ awaited asking accepted = awaited ≡ 0

-- how many answers an actor awaits, and how many it asks for itself
abbrev pub awaited_by : List OpenConnection → List PendingMessage → ℕ → ℕ
awaited_by cs ms a = count_by (awaited_of a) cs + count_by (called_by a) ms

abbrev pub asked_by : List OpenConnection → List PendingMessage → ℕ → ℕ
asked_by cs ms a = count_by (asking_of a) cs + count_by (called_by a) ms

-- the actor's phase fits the numbers of its connections and requests
abbrev pub PhaseFitsAt : List ActorPhase → List OpenConnection → List PendingMessage → ℕ → Type 0
PhaseFitsAt phases cs ms a = PhaseFits (get_or phases a Ended) (awaited_by cs ms a) (asked_by cs ms a) (λ n. count_by (accepted_as a n) cs)

-- ---- handles

-- an actor that is still to be told the handle of the connection with this serial number
abbrev pub is_joining : ActorPhase → ℕ → Bool
is_joining (Connected c) n = c == n
is_joining _ n = false

-- the two answers are the same
abbrev pub same : Bool → Bool → Bool
same true b = b
same false b = not b

-- that a connection has no handle is to say that it is Opening, or that its client is still to be told
abbrev pub wrongly_shown : List ActorPhase → OpenConnection → Bool
wrongly_shown phases c = not (same (is_none c.handle) (is_opening c.phase || is_joining (get_or phases c.client.0 Ended) c.serial))

-- how many messages and connections have the handle
abbrev pub objects_with : SpmState → Handle → ℕ
objects_with b h = count_by (λ m. has_handle m.handle h) b.messages + count_by (λ c. has_handle c.handle h) b.connections

-- ---- the laws of a state

-- the connections and messages of a state fit each other, the budgets and the phases of the actors
pub record ObjectsFit (s : System) (b : SpmState) : Type 0 where
  -- no actor has more connections to a service than its budget, and none where it has no budget
  pub budgets : (a service : ℕ) → in_use b a service ≤ allowed s a service
  -- messages that have a connection pair off with the connections that are Opening, Busy or Closing, with the same client and service and a kind that fits the phase: as many of the one as of the other pass any test of these
  pub paired : (t : Mark) → count_by (message_marked t) b.messages ≡ count_by (connection_marked t) b.connections
  -- any other message is a request to a stateless service by an actor that may use it
  pub called : count_by (wrongly_called s) b.messages ≡ 0
  -- serial numbers rise, and the next one is greater
  pub rising : Rises 0 b.connections b.connections_made
  -- each actor's phase fits the numbers of its connections and requests
  pub phases : (a : ℕ) → PhaseFitsAt b.phases b.connections b.messages a
  -- a connection has no handle exactly where it is Opening or its client is Connected to it
  pub shown : count_by (wrongly_shown b.phases) b.connections ≡ 0
  -- a handle is that of one message or one connection at most
  pub handles : (h : Handle) → objects_with b h ≤ 1

-- the handles of a state are among those given, and no handle was given twice
pub record HandlesFit (st : State) : Type 0 where
  pub given : (h : Handle) → objects_with st.spm h ≤ count_by (handle_eq h) st.handles_given
  pub once : (h : Handle) → count_by (handle_eq h) st.handles_given ≤ 1
