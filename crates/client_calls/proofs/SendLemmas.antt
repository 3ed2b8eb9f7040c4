-- What the calls owe before they send a message of a connection.
use Rattle.std.proofs.Common.{◌≡◌, ◌<◌, ◌≤◌, ◌+◌, ℤ, length, arith, ap, refl, ◌∙◌}
use Rattle.std.specs.Prelude.{Option, Some, None, IfSome}
use Rattle.ffm_model.specs.declared.objects.OpenConnection.{OpenConnection}
use Rattle.ffm_model.specs.declared.objects.Vectors.{Vectors}
use Rattle.ffm_model.specs.declared.system.System.{System}
use Rattle.ffm_model.specs.Names.{capacity, message_capacity}
use Rattle.object_pools.specs.declared.slot.Slot.{Slot}
use Rattle.object_pools.specs.Pool.{Places, item_at}
use Rattle.spm_tables.specs.declared.item.MessageItem.{MessageItem}
use Rattle.spm_tables.specs.TablesView.{TablesView, MadeFor, Shape, spm_of, queued}
use Rattle.spm_tables.proofs.SlotLemmas.{queued-live}
use Rattle.client_calls.specs.Sending.{item_on, message_on}

-- the message that is queued of the connection in the slot
pub queued-on : (p : Places OpenConnection) (s : Slot) (kind : ℤ) (v : Vectors) (m : MessageItem) → IfSome (item_at p s) (λ c. m ≡ item_on s c kind v) → IfSome (item_at p s) (λ c. queued p m ≡ message_on s c kind v)
queued-on p s kind v m = by (item_at p s) refl where
  by : (o : Option OpenConnection) → item_at p s ≡ o → IfSome o (λ c. m ≡ item_on s c kind v) → IfSome o (λ c. queued p m ≡ message_on s c kind v)
  by None live is = is
  by (Some c) live is = ap (queued p) is ∙ queued-live p s c (item_on s c kind v) refl live

-- the pool has room for one more message
pub room-for-message : (d : TablesView) (s : System) → MadeFor d s → length (spm_of d).messages + 1 ≤ message_capacity s → length (spm_of d).messages < length d.messages.generations
room-for-message d s made room = omega (arith, ap (λ (x : Shape). x.messages) made)

-- and for one more connection
pub room-for-connection : (d : TablesView) (s : System) → MadeFor d s → length (spm_of d).connections + 1 ≤ capacity s → length (spm_of d).connections < length d.connections.generations
room-for-connection d s made room = omega (arith, ap (λ (x : Shape). x.connections) made)
