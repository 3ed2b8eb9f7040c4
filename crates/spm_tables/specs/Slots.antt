-- Which connection a message belongs to: the one of its serial number, in the slot that the message names, or none.
-- Source: FF-M 1.0, a message is of one connection; FF-M 1.1 Extensions, or of none where a stateless handle sent it; the slots are this manager's.
use Rattle.std.specs.Prelude.{◌≡◌, ◌<◌, Some, IfSome, All}
use Rattle.ffm_model.specs.declared.objects.OpenConnection.{OpenConnection}
use Rattle.object_pools.specs.Pool.{Places}
use Rattle.spm_tables.specs.declared.item.QueuedMessage.{QueuedMessage}

pub record BelongsTo (connections : Places OpenConnection) (m : QueuedMessage) : Type 0 where
  -- its serial number, where it has one, is that of a connection that was made
  pub made : IfSome m.serial (λ n. n < connections.takes)
  -- and while its connection is there, it is in the slot that the message names
  pub slot : All (λ h. m.serial ≡ Some h.item.serial → m.connection ≡ Some h.slot) connections.held

-- what the tables keep of their messages
abbrev pub KeepSlots : Places OpenConnection → Places QueuedMessage → Type 0
KeepSlots connections messages = All (λ h. BelongsTo connections h.item) messages.held
