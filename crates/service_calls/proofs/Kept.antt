-- What each call keeps: the condition on the vectors of messages, and the names of slots.
use Rattle.std.proofs.Common.{ℕ, ◌≡◌, ◌==◌, Bool, not, List, map, filter, ◌∙◌, ap, sym, refl, subst, inl, inr}
use Rattle.std.specs.Prelude.{Option, Some, None, IsSome, IfSome, All, IsSomeAnd, find, is_some}
use Rattle.std.proofs.lemmas.List.Elements.{All-map, All-filter}
use Rattle.ffm_model.specs.declared.objects.OpenConnection.{OpenConnection}
use Rattle.ffm_model.specs.declared.objects.ActorPhase.{ActorPhase}
use Rattle.ffm_model.specs.declared.objects.PendingMessage.{PendingMessage}
use Rattle.ffm_model.specs.declared.objects.Vectors.{Vectors}
use Rattle.ffm_model.specs.declared.system.System.{System}
use Rattle.ffm_model.specs.State.{SpmState, with_rhandle}
use Rattle.law_counting.specs.Objects.{ObjectsFit}
use Rattle.law_counting.proofs.CallsFit.{rhandle-fits}
use Rattle.machine_rules.specs.Vectors.{AreWithin}
use Rattle.object_pools.specs.declared.slot.Slot.{Slot}
use Rattle.object_pools.specs.declared.slot.Held.{Held}
use Rattle.object_pools.specs.Pool.{Places, IsKept, has_slot, item_at, item_put, with_item, without}
use Rattle.handle_table.specs.Table.{connections}
use Rattle.law_calls.specs.PoolChanges.{OneMessageEach}
use Rattle.law_calls.specs.Named.{KeepsNames}
use Rattle.law_calls.proofs.Changes.{names-same, names-connection, names-message}
use Rattle.law_calls.proofs.Removals.{fitting-messages, names-answered, names-ended, names-replied}
use Rattle.spm_tables.specs.declared.item.QueuedMessage.{QueuedMessage}
use Rattle.spm_tables.specs.TablesView.{TablesView, held_message, spm_of}
use Rattle.service_calls.specs.Connections.{ChangesAt, ChangesWhere, IsConnectionOf}
use Rattle.handle_table.proofs.SlotLemmas.{All-put}
use Rattle.service_calls.proofs.Held.{All-of-map}

-- ---- the vectors of the messages

put-among : (P : Vectors → Type 0) (t : Slot) (n : QueuedMessage) (held : List (Held QueuedMessage)) → All (λ m. P m.vectors) (map held_message held) → P n.vectors
    → All (λ m. P m.vectors) (map held_message (map (item_put t n) held))
put-among P t n held all new =
    All-map (λ (m : PendingMessage). P m.vectors) held_message (map (item_put t n) held)
    (All-put (λ (h : Held QueuedMessage). P (held_message h).vectors) t n (λ h e. new) held (All-of-map (λ (m : PendingMessage). P m.vectors) held_message held all))

-- the message of a slot is another one
pub all-put : (P : Vectors → Type 0) (d new : TablesView) (t : Slot) (n : QueuedMessage) → new.messages ≡ with_item d.messages t n → P n.vectors → All (λ m. P m.vectors) (spm_of d).messages → All (λ m. P m.vectors) (spm_of new).messages
all-put P d new t n put own all = subst (λ (w : Places QueuedMessage). All (λ m. P m.vectors) (map held_message w.held)) (sym put) (put-among P t n d.messages.held all own)

out-among : (P : PendingMessage → Type 0) (p : Held QueuedMessage → Bool) (held : List (Held QueuedMessage)) → All P (map held_message held) → All P (map held_message (filter p held))
out-among P p held all = All-map P held_message (filter p held) (All-filter p (λ h. P (held_message h)) held (All-of-map P held_message held all))

-- the message of a slot is gone
pub all-out : (P : PendingMessage → Type 0) (d new : TablesView) (t : Slot) → new.messages ≡ without d.messages t → All P (spm_of d).messages → All P (spm_of new).messages
all-out P d new t gone all = subst (λ (w : Places QueuedMessage). All P (map held_message w.held)) (sym gone) (out-among P (λ h. not (has_slot t h)) d.messages.held all)

-- ---- moved vectors

-- the vectors of a message were moved
pub record IsMoved (d new : TablesView) (t : Slot) (v : Vectors) : Type 0 where
  pub item : QueuedMessage
  pub live : item_at d.messages t ≡ Some item
  pub after : new ≡ record d { messages = with_item d.messages t (record item { vectors = v }) }

pub was-moved : (d new : TablesView) (t : Slot) (v : Vectors) → IsSome (item_at d.messages t) → IfSome (item_at d.messages t) (λ m. new ≡ record d { messages = with_item d.messages t (record m { vectors = v }) }) → IsMoved d new t v
was-moved d new t v some after =
    let go : (o : Option QueuedMessage) → item_at d.messages t ≡ o → IsSome o → IfSome o (λ m. new ≡ record d { messages = with_item d.messages t (record m { vectors = v }) }) → IsMoved d new t v =
    elim [ None ↦ λ e x f. cc | Some m ↦ λ e x f. record { item = m; live = e; after = f } ] in
    go (item_at d.messages t) refl some after

pub moved-all : (P : Vectors → Type 0) (d new : TablesView) (t : Slot) (v : Vectors) → IsMoved d new t v → P v → All (λ m. P m.vectors) (spm_of d).messages → All (λ m. P m.vectors) (spm_of new).messages
moved-all P d new t v it own all = all-put P d new t (record it.item { vectors = v }) (ap (λ (e : TablesView). e.messages) it.after) own all

pub moved-names : (s : System) (d new : TablesView) (t : Slot) (v : Vectors) → IsKept 304 d.messages → IsMoved d new t v → KeepsNames s d new
moved-names s d new t v kept it =
    names-message s d new t it.item (record it.item { vectors = v }) kept it.live refl (λ e. refl) refl (λ e. e) (ap (λ (e : TablesView). e.connections) it.after) (ap (λ (e : TablesView). e.messages) it.after)

-- ---- names where a call changes no message

pub unchanged-names : (s : System) (d new : TablesView) → new ≡ d → KeepsNames s d new
unchanged-names s d new same = names-same s d new (ap (λ (e : TablesView). e.connections) same) (ap (λ (e : TablesView). e.messages) same)

pub phase-names : (s : System) (d new : TablesView) (phases : List ActorPhase) → new ≡ record d { phases = phases } → KeepsNames s d new
phase-names s d new phases after = names-same s d new (ap (λ (e : TablesView). e.connections) after) (ap (λ (e : TablesView). e.messages) after)

pub rhandle-names : (s : System) (d new : TablesView) (u : Slot) (m : QueuedMessage) (r : ℕ) → IsKept 256 d.connections → IsConnectionOf d.connections m u
    → IfSome (item_at d.connections u) (λ c. new ≡ record d { connections = with_item d.connections u (record c { rhandle = r }) }) → KeepsNames s d new
rhandle-names s d new u m r kept own after =
    let Own : OpenConnection → Type 0 = λ c. (m.serial ≡ Some c.serial) × (find (λ x. x.serial == c.serial) (connections d.connections) ≡ Some c) in
    let go : (o : Option OpenConnection) → item_at d.connections u ≡ o → IsSomeAnd o Own → IfSome o (λ c. new ≡ record d { connections = with_item d.connections u (record c { rhandle = r }) }) → KeepsNames s d new =
    elim [
      | None ↦ λ e x f. absurd x
      | Some c ↦ λ e x f. names-connection s d new u c (record c { rhandle = r }) kept e refl (λ g. g) (ap (λ (y : TablesView). y.connections) f) (ap (λ (y : TablesView). y.messages) f)
    ] in
    go (item_at d.connections u) refl own after

-- ---- a reply

-- a message is gone, and its connection, where it has one, changed or gone
pub reply-names : (s : System) (d mid new : TablesView) (t : Slot) (link : Option Slot) → ObjectsFit s (spm_of d) → IsKept 256 d.connections → mid ≡ record d { messages = without d.messages t } → ChangesWhere link mid.connections new.connections
    → new.messages ≡ mid.messages → KeepsNames s d new
reply-names s d mid new t link fit kept dropped changes same =
    let one : OneMessageEach (spm_of d) = fitting-messages s (spm_of d) fit in
    let of_messages : new.messages ≡ without d.messages t = same ∙ ap (λ (e : TablesView). e.messages) dropped in
    let at : (u : Slot) → ChangesAt u d.connections new.connections → KeepsNames s d new =
    λ u. elim [
      | inl x ↦ names-answered s d new t u x.0 x.1 one kept x.2 x.3 (λ e. ap is_some (sym x.4) ∙ e) x.5 of_messages
      | inr gone ↦ names-ended s d new t u one gone of_messages
    ] in
    let go : (o : Option Slot) → ChangesWhere o d.connections new.connections → KeepsNames s d new = elim [ None ↦ λ e. names-replied s d new t one e of_messages | Some u ↦ at u ] in
    go link (subst (λ (e : TablesView). ChangesWhere link e.connections new.connections) dropped changes)

-- ---- the rhandle of a connection changes

pub rhandle-fit : (s : System) (b new : SpmState) (r : ℕ) (o : Option OpenConnection) → IsSome o → IfSome o (λ c. new ≡ with_rhandle b c.serial r) → ObjectsFit s b → ObjectsFit s new
rhandle-fit s b new r (Some c) live state fit = subst (ObjectsFit s) (sym state) (rhandle-fits s b c.serial r fit)
rhandle-fit s b new r None live state fit = cc

pub rhandle-within : (ranges : List (ℕ × ℕ)) (b new : SpmState) (r : ℕ) (o : Option OpenConnection) → IsSome o → IfSome o (λ c. new ≡ with_rhandle b c.serial r) → All (λ m. AreWithin ranges m.vectors) b.messages
    → All (λ m. AreWithin ranges m.vectors) new.messages
rhandle-within ranges b new r (Some c) live state all = subst (λ (x : SpmState). All (λ m. AreWithin ranges m.vectors) x.messages) (sym state) all
rhandle-within ranges b new r None live state all = cc
