-- The numbers that handles show: the slot of a connection or message, and how often that slot was used.
-- Source: this profile's choice of handles; the standard leaves psa_handle_t open.
-- A slot's index is the least one that is free; its generation is one more than the number of earlier uses.
use Rattle.std.specs.Prelude.{ℕ, pos, zero, suc, ◌+◌, ◌-◌, ◌*◌, ◌==◌, nat_lt, Bool, true, false, not, ◌&&◌, ◌||◌, if◌then◌else◌, List, [], ◌∷◌, ◌++◌, length, Some, None, Option, map, find, position, get_or, count_by, sum_by, option_and_then, fold, is_some}
use Rattle.std.specs.List.{list_any, range_with_len}
use Rattle.std.specs.Option.{option_map, option_map_or, unwrap_or}
use Rattle.std.specs.Ordering.{int_eq}
use Rattle.ffm_model.specs.declared.system.System.{System}
use Rattle.ffm_model.specs.declared.machine.Entry.{Entry}
use Rattle.ffm_model.specs.declared.machine.Handle.{Handle}
use Rattle.ffm_model.specs.declared.machine.Call.{Call}
use Rattle.ffm_model.specs.declared.machine.Call.TheVariants as call
use Rattle.ffm_model.specs.declared.objects.ActorPhase.{ActorPhase}
use Rattle.ffm_model.specs.declared.objects.ActorPhase.TheVariants as phase
use Rattle.ffm_model.specs.declared.objects.PendingMessage.{PendingMessage}
use Rattle.ffm_model.specs.Actors.{is_stateless}
use Rattle.ffm_model.specs.Memory.{ByteMap}
use Rattle.ffm_model.specs.State.{SpmState, State, opening, phase_of, handle_eq, is_undelivered}
use Rattle.ffm_model.specs.ServiceCalls.{service_of_signal}
use Rattle.ffm_model.specs.Calls.{programmer_error}
use Rattle.ffm_model.specs.Step.{step, handle_shown}

-- a slot, and how often it was taken, this time included
pub record SlotName : Type 0 where
  pub index : ℕ
  pub generation : ℕ

abbrev pub no_slot : SlotName
no_slot = record { index = 0; generation = 0 }

-- the slots so far
pub record NamesSoFar : Type 0 where
  -- by serial number, of each connection that was made
  pub connections : List SlotName
  -- of the messages of the state, in their order
  pub messages : List SlotName
  -- of all messages that were ever made
  pub past_messages : List SlotName

abbrev pub no_names : NamesSoFar
no_names = record { connections = []; messages = []; past_messages = [] }

-- the family's base is 0 for connections and 512 for messages
abbrev pub name_of : ℕ → SlotName → Handle
name_of base t = record { 0 = pos (t.generation * 1024 + t.index + base) }

abbrev pub has_index : ℕ → SlotName → Bool
has_index i t = t.index == i

abbrev pub next_slot : ℕ → List SlotName → List SlotName → SlotName
next_slot size live past =
    let i = unwrap_or (find (λ k. not (list_any (has_index k) live)) (range_with_len 0 size)) 0 in
    record { index = i; generation = count_by (has_index i) past + 1 }

-- how many connections a system declares, and so how many slots of connections there are
abbrev pub capacity : System → ℕ
capacity s = sum_by (λ b. b.count) s.budgets

-- the actor may use a stateless service
abbrev pub calls_stateless : System → ℕ → Bool
calls_stateless s a = list_any (λ b. (b.client.0 == a) && is_stateless s b.service) s.budgets

-- each connection has a message at most, and so has each partition and each client that may use a stateless service, so there are so many slots of messages
abbrev pub message_capacity : System → ℕ
message_capacity s = capacity s + count_by (calls_stateless s) (range_with_len 0 (length s.partitions + length s.clients))

-- both of one connection, or neither of any
abbrev pub is_same_connection : Option ℕ → Option ℕ → Bool
is_same_connection (Some n) (Some k) = n == k
is_same_connection None None = true
is_same_connection _ _ = false

-- the same connection, or where there is none the same client, and the same kind
abbrev pub is_same_message : PendingMessage → PendingMessage → Bool
is_same_message m n = is_same_connection n.connection m.connection && ((is_some m.connection || (n.client.0 == m.client.0)) && int_eq n.kind m.kind)

-- whether the message is still there; a connection has at most one message at a time, and an actor has at most one without a connection
abbrev pub stays : List PendingMessage → PendingMessage → Bool
stays ms m = list_any (is_same_message m) ms

-- the slots of the messages that pass the test
abbrev pub slots_kept : (PendingMessage → Bool) → List PendingMessage → List SlotName → List SlotName
slots_kept p [] ts = []
slots_kept p (m ∷ ms) [] = []
slots_kept p (m ∷ ms) (t ∷ ts) = if p m then t ∷ slots_kept p ms ts else slots_kept p ms ts

-- n messages more
abbrev pub with_messages : ℕ → ℕ → NamesSoFar → NamesSoFar
with_messages size zero k = k
with_messages size (suc n) k =
    let t = next_slot size k.messages k.past_messages in
    with_messages size n (record k { messages = k.messages ++ t ∷ []; past_messages = k.past_messages ++ t ∷ [] })

abbrev pub live_connections : NamesSoFar → SpmState → List SlotName
live_connections k b = map (λ c. get_or k.connections c.serial no_slot) b.connections

abbrev pub with_connection : ℕ → SpmState → SpmState → NamesSoFar → NamesSoFar
with_connection size old new k = if nat_lt old.connections_made new.connections_made then record k { connections = k.connections ++ next_slot size (live_connections k old) k.connections ∷ [] } else k

-- the slots after an event; what it removes is free before it takes new ones
abbrev pub names_after : System → SpmState → SpmState → NamesSoFar → NamesSoFar
names_after s old new k =
    let kept = slots_kept (stays new.messages) old.messages k.messages in
    with_messages (message_capacity s) (length new.messages - length kept)
    (with_connection (capacity s) old new (record k { messages = kept }))

-- the handle that the event has to show: the connection's at the return of psa_connect, the message's at psa_get
abbrev pub name_at_return : NamesSoFar → ActorPhase → Option Handle
name_at_return k (phase.Connected c) = Some (name_of 0 (get_or k.connections c no_slot))
name_at_return k _ = None

abbrev pub name_due : System → State → ℕ → Call → NamesSoFar → Option Handle
name_due s st a call.Resume k = name_at_return k (phase_of st.spm a)
name_due s st a (call.Get signal msg) k =
    option_map (λ j. name_of 512 (get_or k.messages j no_slot)) (option_and_then (λ i. position (is_undelivered i) st.spm.messages) (service_of_signal s a signal))
name_due s st a _ k = None

abbrev pub shows_name : System → State → Entry → NamesSoFar → Bool
shows_name s st e k = programmer_error s st e.actor.0 e.call || option_map_or (handle_eq (handle_shown e.outcome)) (name_due s st e.actor.0 e.call k) true

-- a state, and the names of what it has
pub record NamedState : Type 0 where
  pub state : State
  pub names : NamesSoFar

abbrev pub first_named : System → ByteMap → NamedState
first_named s m = record { state = opening s m; names = no_names }

-- one entry further, where it shows the name that is due
abbrev pub named_step : System → NamedState → Entry → Option NamedState
named_step s w e =
    if shows_name s w.state e w.names
    then option_map (λ new. record { state = new; names = names_after s w.state.spm new.spm w.names }) (step s w.state e)
    else None

abbrev pub named_step_on : System → Option NamedState → Entry → Option NamedState
named_step_on s w e = option_and_then (λ x. named_step s x e) w

abbrev pub named_after : System → ByteMap → List Entry → Option NamedState
named_after s m es = fold (named_step_on s) (Some (first_named s m)) es

-- the entries are a run in which each handle shown is the name of its connection or message
abbrev pub names : System → ByteMap → List Entry → Bool
names s m es = is_some (named_after s m es)
