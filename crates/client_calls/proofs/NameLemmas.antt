-- The slots that the calls take and put back are those that the machine names.
use Rattle.std.proofs.Common.{◌≡◌, ◌∙◌, ap, refl, sym}
use Rattle.std.specs.Prelude.{ℕ, ℤ, Option, Some, None, IsSomeAnd, IfSome}
use Rattle.ffm_model.specs.declared.system.System.{System}
use Rattle.ffm_model.specs.declared.machine.Handle.{Handle}
use Rattle.ffm_model.specs.declared.objects.Vectors.{Vectors}
use Rattle.ffm_model.specs.declared.objects.OpenConnection.{OpenConnection}
use Rattle.ffm_model.specs.declared.objects.ConnPhase.{ConnPhase}
use Rattle.law_lists.proofs.Options.{if-some}
use Rattle.object_pools.specs.declared.slot.Slot.{Slot}
use Rattle.object_pools.specs.Pool.{Places, IsKept, free_slot, item_at, taken, with_item, without}
use Rattle.handle_table.specs.Table.{IsTable}
use Rattle.spm_tables.specs.declared.item.QueuedMessage.{QueuedMessage}
use Rattle.spm_tables.specs.TablesView.{TablesView, MadeFor}
use Rattle.law_calls.specs.Named.{KeepsNames}
use Rattle.law_calls.proofs.Changes.{names-added, names-freed, names-asked, names-connected}
use Rattle.client_calls.specs.Sending.{message_on}
use Rattle.spm_tables.proofs.PoolLemmas.{item-taken}
use Rattle.client_calls.proofs.HeldLemmas.{IsHeld, Phased, after-phase, item-phased}

-- the connection of a slot goes
pub names_gone : (y : System) (d new : TablesView) (s : Slot) → new ≡ record d { connections = without d.connections s } → KeepsNames y d new
names_gone y d new s after = names-freed y d new s (ap (λ (x : TablesView). x.connections) after) (ap (λ (x : TablesView). x.messages) after)

-- the place of a message that was sent
abbrev Placed : Places QueuedMessage → QueuedMessage → Places QueuedMessage → Type 0
Placed w x v = (place : Slot) × (free_slot w ≡ Some place) × (v ≡ taken w place x)

placed : (w v : Places QueuedMessage) (x : QueuedMessage) → IsSomeAnd (free_slot w) (λ place. v ≡ taken w place x) → Placed w x v
placed w v x h =
    let go : (o : Option Slot) → free_slot w ≡ o → IsSomeAnd o (λ place. v ≡ taken w place x) → Placed w x v =
    elim [ None ↦ λ e n. absurd n | Some place ↦ λ e i. (place, e, i) ] in
    go (free_slot w) refl h

-- what `send` says of the messages
abbrev pub Sends : TablesView → Slot → ℤ → Vectors → TablesView → Type 0
Sends m s kind v new = IfSome (item_at m.connections s) (λ c. IsSomeAnd (free_slot m.messages) (λ place. new.messages ≡ taken m.messages place (message_on s c kind v)))

-- psa_connect
pub names-connect : (y : System) (d m new : TablesView) (s : Slot) (c : OpenConnection) (kind : ℤ) (v : Vectors) → MadeFor d y → IsTable d.connections → free_slot d.connections ≡ Some s → c.serial ≡ d.connections.takes
    → m ≡ record d { connections = taken d.connections s c } → new.connections ≡ m.connections → Sends m s kind v new → KeepsNames y d new
names-connect y d m new s c kind v made table free serial started same sent =
    let live : item_at m.connections s ≡ Some c = ap (λ (x : TablesView). item_at x.connections s) started ∙ item-taken d.connections s c free in
    let of_messages : m.messages ≡ d.messages = ap (λ (x : TablesView). x.messages) started in
    let P : OpenConnection → Type 0 = λ x. IsSomeAnd (free_slot m.messages) (λ place. new.messages ≡ taken m.messages place (message_on s x kind v)) in
    let at = placed m.messages new.messages (message_on s c kind v) (if-some (item_at m.connections s) c P live sent) in
    names-connected y d new s at.0 c (message_on s c kind v) made table free serial (same ∙ ap (λ (x : TablesView). x.connections) started)
    (ap (λ (w : Places QueuedMessage). free_slot w) (sym of_messages) ∙ at.1) (at.2 ∙ ap (λ (w : Places QueuedMessage). taken w at.0 (message_on s c kind v)) of_messages)

-- psa_call, and psa_close of a connection that isn't dead
pub names-held : (y : System) (d m new : TablesView) (a : ℕ) (k : Handle) (s : Slot) (c : OpenConnection) (ph : ConnPhase) (kind : ℤ) (v : Vectors) → IsHeld d a k s c → Phased d s ph m → MadeFor d y
    → IsKept 256 d.connections → new.connections ≡ m.connections → Sends m s kind v new → KeepsNames y d new
names-held y d m new a k s c ph kind v h phased made kept same sent =
    let changed : OpenConnection = record c { phase = ph } in
    let after : m ≡ record d { connections = with_item d.connections s changed } = after-phase d m a k s c ph h phased in
    let of_messages : m.messages ≡ d.messages = ap (λ (x : TablesView). x.messages) after in
    let P : OpenConnection → Type 0 = λ x. IsSomeAnd (free_slot m.messages) (λ place. new.messages ≡ taken m.messages place (message_on s x kind v)) in
    let at = placed m.messages new.messages (message_on s changed kind v) (if-some (item_at m.connections s) changed P (item-phased d m a k s c ph h phased) sent) in
    names-asked y d new s at.0 c changed (message_on s changed kind v) made kept h.live refl (λ e. e) (same ∙ ap (λ (x : TablesView). x.connections) after)
    (ap (λ (w : Places QueuedMessage). free_slot w) (sym of_messages) ∙ at.1) (at.2 ∙ ap (λ (w : Places QueuedMessage). taken w at.0 (message_on s changed kind v)) of_messages)

-- psa_call by a stateless handle
pub names-asked-of : (y : System) (d new : TablesView) (x : QueuedMessage) → MadeFor d y → new.connections ≡ d.connections → IsSomeAnd (free_slot d.messages) (λ place. new.messages ≡ taken d.messages place x) → KeepsNames y d new
names-asked-of y d new x made same sent =
    let at = placed d.messages new.messages x sent in
    names-added y d new at.0 x made same at.1 at.2
