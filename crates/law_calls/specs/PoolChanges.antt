-- Changes of the tables' pools that take no slot, and the tables in the middle of an event that takes several.
-- Source: of this repository; FF-M 1.0 leaves open how a manager keeps its connections and messages.
use Rattle.std.specs.Prelude.{◌≡◌, ℕ, ◌≤◌, Bool, List, count_by, filter, map, All}
use Rattle.std.specs.List.{list_any}
use Rattle.ffm_model.specs.declared.objects.OpenConnection.{OpenConnection}
use Rattle.ffm_model.specs.State.{Rises, SpmState}
use Rattle.ffm_model.specs.declared.objects.PendingMessage.{PendingMessage}
use Rattle.ffm_model.specs.Names.{NamesSoFar, SlotName, is_same_message, with_messages}
use Rattle.object_pools.specs.declared.slot.Held.{Held}
use Rattle.object_pools.specs.Pool.{Places}
use Rattle.handle_table.specs.Handles.{live_names, slot_name}
use Rattle.law_counting.specs.Objects.{Mark, called_by, connection_marked, message_marked}
use Rattle.spm_tables.specs.declared.item.QueuedMessage.{QueuedMessage}
use Rattle.spm_tables.specs.TablesView.{TablesView, held_message}
use Rattle.law_calls.specs.Named.{IsNamedBy, NamesAre}

-- no connection is made, and those that are there have the slots and serial numbers that they had: what names the old ones names them
pub record KeepsConnectionNames (old new : Places OpenConnection) : Type 0 where
  pub generations : new.generations ≡ old.generations
  pub takes : new.takes ≡ old.takes
  pub held : (ts : List SlotName) → All (IsNamedBy ts) old.held → All (IsNamedBy ts) new.held

-- the messages of two slots are the same one, for the machine's names
abbrev pub is_like : Held QueuedMessage → Held QueuedMessage → Bool
is_like h n = is_same_message (held_message h) (held_message n)

-- no message comes or goes: the slots are the same, in their order, and so are the messages, for the machine's names
pub record KeepsMessageNames (old new : Places QueuedMessage) : Type 0 where
  pub generations : new.generations ≡ old.generations
  pub takes : new.takes ≡ old.takes
  pub names : live_names new ≡ live_names old
  pub alike : (h : Held QueuedMessage) → list_any (is_like h) new.held ≡ list_any (is_like h) old.held

-- the slots of the messages that pass the test
abbrev pub names_of : (Held QueuedMessage → Bool) → Places QueuedMessage → List SlotName
names_of q p = map (λ (h : Held QueuedMessage). slot_name h.slot) (filter q p.held)

-- since the tables `old`, only the messages whose slots are `kept` stayed, and then n more were taken in
abbrev pub TakesOn : ℕ → TablesView → List SlotName → ℕ → TablesView → Type 0
TakesOn size old kept n d = (k : NamesSoFar) → NamesAre old k → NamesAre d (with_messages size n (record k { messages = kept }))

-- no two messages are of one connection and kind, nor of one client and kind without a connection
abbrev pub OneMessageEach : SpmState → Type 0
OneMessageEach b = (n : PendingMessage) → count_by (is_same_message n) b.messages ≤ 1

-- messages pair off with the connections whose service owes an answer, and no actor has two requests by stateless handles, whatever the phases of the actors
pub record PairsOff (b : SpmState) : Type 0 where
  pub paired : (t : Mark) → count_by (message_marked t) b.messages ≡ count_by (connection_marked t) b.connections
  pub calls : (a : ℕ) → count_by (called_by a) b.messages ≤ 1
  pub rising : Rises 0 b.connections b.connections_made
