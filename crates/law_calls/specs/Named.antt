-- The names of the slots that tables use, as the machine's names have them, and the handles of theirs that were given.
-- Source: this profile's choice of handles; FF-M 1.0 leaves open which numbers they are.
use Rattle.std.specs.Prelude.{◌≡◌, ℕ, ◌≤◌, Bool, is_some, List, length, get_or, All}
use Rattle.ffm_model.specs.declared.system.System.{System}
use Rattle.ffm_model.specs.declared.machine.Handle.{Handle}
use Rattle.ffm_model.specs.declared.objects.OpenConnection.{OpenConnection}
use Rattle.ffm_model.specs.Names.{NamesSoFar, SlotName, names_after, no_slot}
use Rattle.object_pools.specs.declared.slot.Held.{Held}
use Rattle.object_pools.specs.Pool.{Places}
use Rattle.handle_table.specs.declared.handles.Family.{Family}
use Rattle.handle_table.specs.declared.handles.Family.TheVariants.{Connection, Message}
use Rattle.handle_table.specs.Handles.{GivesFresh, IsPast, live_names, slot_name}
use Rattle.spm_tables.specs.declared.item.QueuedMessage.{QueuedMessage}
use Rattle.spm_tables.specs.TablesView.{TablesView, spm_of}

-- by its serial number, the connection has its slot's name
abbrev pub IsNamedBy : List SlotName → Held OpenConnection → Type 0
IsNamedBy ts h = get_or ts h.item.serial no_slot ≡ slot_name h.slot

-- the names so far are those of the tables' slots
pub record NamesAre (d : TablesView) (k : NamesSoFar) : Type 0 where
  -- each connection that was ever made has a name
  pub made : length k.connections ≡ d.connections.takes
  -- and the name of one that is there is its slot's
  pub connections : All (IsNamedBy k.connections) d.connections.held
  pub past_connections : IsPast d.connections k.connections
  -- the names of the messages are those of their slots
  pub messages : k.messages ≡ live_names d.messages
  pub past_messages : IsPast d.messages k.past_messages
  -- each message that was ever made has a name
  pub sent : length k.past_messages ≡ d.messages.takes

-- no generation falls; and whichever handles were given, if none was that of a generation to come, or of a connection or message that has none yet, none is now
pub record KeepsFresh {T : Type 0} (f : Family) (told : T → Bool) (old new : Places T) : Type 0 where
  pub size : length new.generations ≡ length old.generations
  pub generations : (i : ℕ) → get_or old.generations i 0 ≤ get_or new.generations i 0
  -- of the first n indices, where the pool has no more slots
  pub fresh : (n : ℕ) → length old.generations ≤ n → (given : List Handle) → GivesFresh f n told old given → GivesFresh f n told new given

abbrev pub KeepsFreshConnections : Places OpenConnection → Places OpenConnection → Type 0
KeepsFreshConnections = KeepsFresh Connection (λ c. is_some c.handle)

abbrev pub KeepsFreshMessages : Places QueuedMessage → Places QueuedMessage → Type 0
KeepsFreshMessages = KeepsFresh Message (λ m. m.delivered)

pub record KeepsGiven (old new : TablesView) : Type 0 where
  pub connections : KeepsFreshConnections old.connections new.connections
  pub messages : KeepsFreshMessages old.messages new.messages

-- whichever names there were so far, an event puts back one slot for each connection and message that it removes, then takes one for each that it adds, and touches no other
abbrev pub FollowsNames : System → TablesView → TablesView → Type 0
FollowsNames s old new = (k : NamesSoFar) → NamesAre old k → NamesAre new (names_after s (spm_of old) (spm_of new) k)

-- what an event leaves of the names, and of the handles given
pub record KeepsNames (s : System) (old new : TablesView) : Type 0 where
  pub names : FollowsNames s old new
  pub given : KeepsGiven old new
