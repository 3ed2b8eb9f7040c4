-- The connection of a message among a manager's connections.
-- Source: FF-M 1.0 and 1.1, a message is of one connection, or of none where a stateless handle sent it; the slots are this manager's.
use Rattle.std.specs.Prelude.{◌≡◌, ◌==◌, ◌⊎◌, find, Option, Some, None, IsSomeAnd}
use Rattle.ffm_model.specs.declared.objects.OpenConnection.{OpenConnection}
use Rattle.object_pools.specs.declared.slot.Slot.{Slot}
use Rattle.object_pools.specs.Pool.{Places, item_at, with_item, without}
use Rattle.handle_table.specs.Table.{connections}
use Rattle.spm_tables.specs.declared.item.QueuedMessage.{QueuedMessage}

-- the slot is that of the message's connection, which is there
abbrev pub IsConnectionOf : Places OpenConnection → QueuedMessage → Slot → Type 0
IsConnectionOf pool m slot = IsSomeAnd (item_at pool slot) (λ c. (m.serial ≡ Some c.serial) × (find (λ d. d.serial == c.serial) (connections pool) ≡ Some c))

-- the slot of the message's connection, which is there, or none where the message is of no connection
abbrev pub IsLinkOf : Places OpenConnection → QueuedMessage → Option Slot → Type 0
IsLinkOf pool m None = m.serial ≡ None
IsLinkOf pool m (Some slot) = IsConnectionOf pool m slot

-- the connection of a slot is another one with the same serial number and handle, or it is gone; all else is as it was
abbrev pub ChangesAt : Slot → Places OpenConnection → Places OpenConnection → Type 0
ChangesAt slot old new = ((c changed : OpenConnection) × (item_at old slot ≡ Some c) × (changed.serial ≡ c.serial) × (changed.handle ≡ c.handle) × (new ≡ with_item old slot changed)) ⊎ (new ≡ without old slot)

-- the same where there is a slot; else nothing changed
abbrev pub ChangesWhere : Option Slot → Places OpenConnection → Places OpenConnection → Type 0
ChangesWhere None old new = new ≡ old
ChangesWhere (Some slot) old new = ChangesAt slot old new
