-- Changes of tables that remove messages and make nothing.
use Rattle.std.proofs.Common.{ℕ, ◌≡◌, ◌≤◌, ◌+◌, ◌==◌, ◌&&◌, ◌||◌, Bool, false, not, List, [], ◌++◌, length, filter, get_or, arith, ◌∙◌, ap, sym, refl, subst}
use Rattle.std.specs.Prelude.{count_by, is_none, is_some, All, Option, Some, None}
use Rattle.std.specs.Option.{option_map_or}
use Rattle.std.specs.List.{list_any}
use Rattle.std.specs.Ordering.{int_eq}
use Rattle.std.proofs.lemmas.List.{append-nil, length-map}
use Rattle.law_lists.proofs.Counts.{bit, both-le-left, both-le-right, count-le}
use Rattle.ffm_model.specs.declared.system.System.{System}
use Rattle.ffm_model.specs.declared.objects.OpenConnection.{OpenConnection}
use Rattle.ffm_model.specs.State.{SpmState}
use Rattle.ffm_model.specs.Names.{is_same_connection, is_same_message, stays}
use Rattle.ffm_model.proofs.SerialLemmas.{serial-once}
use Rattle.object_pools.specs.declared.slot.Slot.{Slot}
use Rattle.object_pools.specs.declared.slot.Held.{Held}
use Rattle.object_pools.specs.Pool.{Places, IsKept, has_slot, item_at, with_item, without}
use Rattle.handle_table.specs.Handles.{slot_name}
use Rattle.handle_table.proofs.Twins.{count-map}
use Rattle.law_counting.specs.Objects.{ObjectsFit, Mark, called_by, is_awaited, connection_marked, message_marked}
use Rattle.law_counting.proofs.Slots.{one-call}
use Rattle.spm_tables.specs.declared.item.QueuedMessage.{QueuedMessage}
use Rattle.spm_tables.specs.TablesView.{TablesView, held_message, spm_of}
use Rattle.law_calls.specs.Named.{FollowsNames, KeepsFreshConnections, KeepsGiven, KeepsNames, NamesAre}
use Rattle.law_calls.specs.PoolChanges.{OneMessageEach, PairsOff, KeepsConnectionNames, is_like}
use Rattle.law_calls.proofs.Given.{given-connection, given-dropped, given-freed, given-still}
use Rattle.law_calls.proofs.KeptSlots.{kept-where, like_itself, message_list, name_list, stays-is}
use Rattle.law_calls.proofs.Moves.{names-with, connection-names-item, connection-names-same, connection-names-to, connection-names-without}
use Rattle.law_calls.proofs.Changes.{after-is, kept_names}
use Rattle.law_calls.proofs.Partings.{like-kept}

pub fitting-pairs-off : (s : System) (b : SpmState) → ObjectsFit s b → PairsOff b
fitting-pairs-off s b h = record { paired = h.paired; calls = λ a. one-call s b a h; rising = h.rising }

-- so each connection has one message at most, and each actor one without
pub one-message : (b : SpmState) → PairsOff b → OneMessageEach b
one-message b h = λ n.
    let t : ℕ → Mark = λ k serial a v ph. serial == k in
    let numbered : (k o : Option ℕ) (x : Bool) (i : ℕ) → k ≡ Some i → bit (is_same_connection o k && x) ≤ bit (option_map_or (λ z. z == i) o false) =
    λ k. elim [
      | None ↦ λ x i e. omega (arith, ap (λ (w : Option ℕ). bit (is_same_connection None w && x)) e)
      | Some z ↦ λ x i e. omega (arith, ap (λ (w : Option ℕ). bit (is_same_connection (Some z) w && x)) e, both-le-left (z == i) x)
    ] in
    let call : (k o : Option ℕ) (x : ℕ) (y : Bool) → k ≡ None → bit (is_same_connection o k && ((is_some k || (x == n.client.0)) && y)) ≤ bit (is_none o && (x == n.client.0)) =
    λ k. elim [
      | None ↦ λ x y e. omega (arith, ap (λ (w : Option ℕ). bit (is_same_connection None w && ((is_some w || (x == n.client.0)) && y))) e, both-le-left (x == n.client.0) y)
      | Some z ↦ λ x y e. omega (arith, ap (λ (w : Option ℕ). bit (is_same_connection (Some z) w && ((is_some w || (x == n.client.0)) && y))) e)
    ] in
    let go : (k : Option ℕ) → n.connection ≡ k → count_by (is_same_message n) b.messages ≤ 1 =
    elim [
      | None ↦ λ e. omega (arith, count-le (is_same_message n) (called_by n.client.0) (λ m. call n.connection m.connection m.client.0 (int_eq m.kind n.kind) e) b.messages, h.calls n.client.0)
      | Some i ↦ λ e.
          omega (
            arith,
            count-le (is_same_message n) (message_marked (t i)) (λ m. numbered n.connection m.connection ((is_some n.connection || (m.client.0 == n.client.0)) && int_eq m.kind n.kind) i e) b.messages,
            h.paired (t i),
            count-le (connection_marked (t i)) (λ c. c.serial == i) (λ c. both-le-right (is_awaited c.phase) (c.serial == i)) b.connections,
            serial-once 0 b.connections_made i b.connections h.rising,
          )
    ] in
    go n.connection refl

pub fitting-messages : (s : System) (b : SpmState) → ObjectsFit s b → OneMessageEach b
fitting-messages s b h = one-message b (fitting-pairs-off s b h)

-- the same, of the items
pub one-item : (d : TablesView) → OneMessageEach (spm_of d) → (h : Held QueuedMessage) → count_by (is_like h) d.messages.held ≤ 1
one-item d one h = omega (arith, one (held_message h), count-map held_message (is_same_message (held_message h)) d.messages.held)

-- the messages that pass the test stay, and the others go
follows-removed : (s : System) (old new : TablesView) (q : Held QueuedMessage → Bool) → OneMessageEach (spm_of old) → KeepsConnectionNames old.connections new.connections
    → new.messages ≡ record old.messages { held = filter q old.messages.held } → FollowsNames s old new
follows-removed s old new q one of_connections of_messages = λ k was.
    let hs : List (Held QueuedMessage) = old.messages.held in
    let ts = name_list (filter q hs) in
    let held : new.messages.held ≡ filter q hs = ap (λ (p : Places QueuedMessage). p.held) of_messages in
    let apart : All (λ h. list_any (is_like h) (filter q hs ++ []) ≡ q h) hs =
    like-kept is_like like_itself q hs [] (one-item old one) (λ i d lt e. refl) in
    let stay : All (λ h. stays (message_list new.messages.held) (held_message h) ≡ q h) hs =
    λ i d lt.
    let h : Held QueuedMessage = get_or hs i d in
    ap (λ (ns : List (Held QueuedMessage)). stays (message_list ns) (held_message h)) (held ∙ sym (append-nil (filter q hs))) ∙ stays-is (filter q hs ++ []) h ∙ apart i d lt in
    let kept : kept_names old new k.messages ≡ ts = ap (kept_names old new) was.messages ∙ kept-where (stays (message_list new.messages.held)) q hs stay in
    let longer : length new.messages.held ≡ length ts + 0 =
    ap (λ (ns : List (Held QueuedMessage)). length ns) held ∙ omega (arith, length-map (filter q hs) (λ (h : Held QueuedMessage). slot_name h.slot)) in
    subst (NamesAre new) (sym (after-is s old new k ts 0 kept longer of_connections.takes))
    (names-with old new k ts was of_connections (ap (λ (p : Places QueuedMessage). p.generations) of_messages) (ap (λ (p : Places QueuedMessage). p.takes) of_messages) (ap name_list (sym held)))

-- ---- a reply

-- the message of a slot goes
follows-dropped : (s : System) (old new : TablesView) (place : Slot) → OneMessageEach (spm_of old) → KeepsConnectionNames old.connections new.connections → new.messages ≡ without old.messages place → FollowsNames s old new
follows-dropped s old new place one of_connections of_messages = follows-removed s old new (λ h. not (has_slot place h)) one of_connections of_messages

given-gone : (old new : TablesView) (place : Slot) → KeepsFreshConnections old.connections new.connections → new.messages ≡ without old.messages place → KeepsGiven old new
given-gone old new place fresh of_messages = record { connections = fresh; messages = given-dropped old.messages new.messages (λ h. not (has_slot place h)) of_messages }

-- and its connection stays as it is
pub follows-replied : (s : System) (old new : TablesView) (place : Slot) → OneMessageEach (spm_of old) → new.connections ≡ old.connections → new.messages ≡ without old.messages place → FollowsNames s old new
follows-replied s old new place one of_connections of_messages = follows-dropped s old new place one (connection-names-same old.connections new.connections of_connections) of_messages

pub names-replied : (s : System) (old new : TablesView) (place : Slot) → OneMessageEach (spm_of old) → new.connections ≡ old.connections → new.messages ≡ without old.messages place → KeepsNames s old new
names-replied s old new place one of_connections of_messages = record {
  names = follows-replied s old new place one of_connections of_messages;
  given = given-gone old new place (given-still _ _ old.connections new.connections of_connections) of_messages;
}

-- or changes in its slot
pub follows-answered : (s : System) (old new : TablesView) (place slot : Slot) (c changed : OpenConnection) → OneMessageEach (spm_of old) → IsKept 256 old.connections → item_at old.connections slot ≡ Some c → changed.serial ≡ c.serial
    → new.connections ≡ with_item old.connections slot changed → new.messages ≡ without old.messages place → FollowsNames s old new
follows-answered s old new place slot c changed one kept live serial of_connections of_messages =
    follows-dropped s old new place one (connection-names-to old.connections new.connections (with_item old.connections slot changed) of_connections (connection-names-item 256 old.connections slot c changed kept live serial)) of_messages

pub names-answered : (s : System) (old new : TablesView) (place slot : Slot) (c changed : OpenConnection) → OneMessageEach (spm_of old) → IsKept 256 old.connections → item_at old.connections slot ≡ Some c → changed.serial ≡ c.serial
    → (is_some changed.handle ≡ false → is_some c.handle ≡ false) → new.connections ≡ with_item old.connections slot changed → new.messages ≡ without old.messages place → KeepsNames s old new
names-answered s old new place slot c changed one kept live serial told of_connections of_messages = record {
  names = follows-answered s old new place slot c changed one kept live serial of_connections of_messages;
  given = given-gone old new place (given-connection old.connections new.connections slot c changed live told of_connections) of_messages;
}

-- or goes too
pub follows-ended : (s : System) (old new : TablesView) (place slot : Slot) → OneMessageEach (spm_of old) → new.connections ≡ without old.connections slot → new.messages ≡ without old.messages place → FollowsNames s old new
follows-ended s old new place slot one of_connections of_messages =
    follows-dropped s old new place one (connection-names-to old.connections new.connections (without old.connections slot) of_connections (connection-names-without old.connections slot)) of_messages

pub names-ended : (s : System) (old new : TablesView) (place slot : Slot) → OneMessageEach (spm_of old) → new.connections ≡ without old.connections slot → new.messages ≡ without old.messages place → KeepsNames s old new
names-ended s old new place slot one of_connections of_messages = record {
  names = follows-ended s old new place slot one of_connections of_messages;
  given = given-gone old new place (given-freed old.connections new.connections slot of_connections) of_messages;
}
