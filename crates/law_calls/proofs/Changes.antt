-- Changes of tables that make or remove one connection or message at most.
use Rattle.std.proofs.Common.{ℕ, ◌≡◌, ◌+◌, ◌-◌, Bool, true, false, cond, List, [], ◌∷◌, ◌++◌, length, map, get_or, arith, ◌∙◌, ap, sym, refl, subst, length-append}
use Rattle.std.specs.Prelude.{All, None, Some, is_some, nat_lt}
use Rattle.std.specs.List.{list_any}
use Rattle.std.proofs.lemmas.Bool.Decides.{nat_tests}
use Rattle.std.proofs.lemmas.List.{length-map}
use Rattle.std.proofs.lemmas.List.Elements.{All-head, All-tail}
use Rattle.ffm_model.specs.declared.system.System.{System}
use Rattle.ffm_model.specs.declared.objects.OpenConnection.{OpenConnection}
use Rattle.ffm_model.specs.Names.{NamesSoFar, SlotName, capacity, live_connections, message_capacity, names_after, next_slot, no_slot, slots_kept, stays, with_connection, with_messages}
use Rattle.object_pools.specs.declared.slot.Slot.{Slot}
use Rattle.object_pools.specs.declared.slot.Held.{Held}
use Rattle.object_pools.specs.Pool.{Places, IsKept, free_slot, item_at, taken, with_item, without}
use Rattle.handle_table.specs.Handles.{live_names, slot_name}
use Rattle.handle_table.specs.Table.{IsTable}
use Rattle.handle_table.proofs.NameLemmas.{next-name}
use Rattle.spm_tables.specs.declared.item.QueuedMessage.{QueuedMessage}
use Rattle.spm_tables.specs.TablesView.{TablesView, MadeFor, Shape, held_message, spm_of}
use Rattle.law_calls.specs.Named.{FollowsNames, IsNamedBy, KeepsNames, NamesAre}
use Rattle.law_calls.specs.PoolChanges.{KeepsConnectionNames, KeepsMessageNames, is_like}
use Rattle.law_calls.proofs.Given.{given-connection, given-freed, given-message, given-put, given-still, given-taken, given-to, given-untouched}
use Rattle.law_calls.proofs.KeptSlots.{kept-all, message_list, stay-all, stay-own, stays-is}
use Rattle.law_calls.proofs.Moves.{names-enqueued, names-started, names-stay, connection-names-item, connection-names-same, connection-names-to, connection-names-without, message-names-item, message-names-same, message-names-to}

-- ---- the machine's names after an event

-- the slots of the messages of the old tables that stay in the new ones
abbrev pub kept_names : TablesView → TablesView → List SlotName → List SlotName
kept_names old new ts = slots_kept (stays (message_list new.messages.held)) (message_list old.messages.held) ts

added : (old new : TablesView) (ts : List SlotName) (n : ℕ) → length new.messages.held ≡ length ts + n → length (message_list new.messages.held) - length ts ≡ n
added old new ts n longer = omega (arith, longer, length-map new.messages.held held_message)

-- where no connection is made
pub after-still : (s : System) (old new : TablesView) (k : NamesSoFar) (ts : List SlotName) → kept_names old new k.messages ≡ ts → new.connections.takes ≡ old.connections.takes
    → names_after s (spm_of old) (spm_of new) k ≡ with_messages (message_capacity s) (length (message_list new.messages.held) - length ts) (record k { messages = ts })
after-still s old new k ts kept made =
    let size : ℕ = capacity s in
    let joined : List SlotName → NamesSoFar = λ us. with_connection size (spm_of old) (spm_of new) (record k { messages = us }) in
    let not_less : nat_lt old.connections.takes new.connections.takes ≡ false = grind (arith, nat_tests) in
    let unjoined : joined ts ≡ record k { messages = ts } =
    ap (λ (b : Bool). cond {A = NamesSoFar} b (record k { messages = ts; connections = k.connections ++ next_slot size (live_connections k (spm_of old)) k.connections ∷ [] }) (record k { messages = ts })) not_less in
    ap (λ us. with_messages (message_capacity s) (length (message_list new.messages.held) - length us) (joined us)) kept ∙ ap (with_messages (message_capacity s) (length (message_list new.messages.held) - length ts)) unjoined

pub after-is : (s : System) (old new : TablesView) (k : NamesSoFar) (ts : List SlotName) (n : ℕ) → kept_names old new k.messages ≡ ts → length new.messages.held ≡ length ts + n → new.connections.takes ≡ old.connections.takes
    → names_after s (spm_of old) (spm_of new) k ≡ with_messages (message_capacity s) n (record k { messages = ts })
after-is s old new k ts n kept longer made =
    after-still s old new k ts kept made ∙ ap (λ m. with_messages (message_capacity s) m (record k { messages = ts })) (added old new ts n longer)

-- where one is
pub after-joined : (s : System) (old new : TablesView) (k : NamesSoFar) (ts : List SlotName) (n : ℕ) → kept_names old new k.messages ≡ ts → length new.messages.held ≡ length ts + n → new.connections.takes ≡ old.connections.takes + 1
    → names_after s (spm_of old) (spm_of new) k
    ≡ with_messages (message_capacity s) n (record k { messages = ts; connections = k.connections ++ next_slot (capacity s) (live_connections k (spm_of old)) k.connections ∷ [] })
after-joined s old new k ts n kept longer made =
    let size : ℕ = capacity s in
    let next : NamesSoFar = record k { messages = ts; connections = k.connections ++ next_slot size (live_connections k (spm_of old)) k.connections ∷ [] } in
    let joined : List SlotName → NamesSoFar = λ us. with_connection size (spm_of old) (spm_of new) (record k { messages = us }) in
    let less : nat_lt old.connections.takes new.connections.takes ≡ true = grind (arith, nat_tests) in
    let is_joined : joined ts ≡ next = ap (λ (b : Bool). cond {A = NamesSoFar} b next (record k { messages = ts })) less in
    ap (λ us. with_messages (message_capacity s) (length (message_list new.messages.held) - length us) (joined us)) kept
    ∙ ap (λ m. with_messages (message_capacity s) m (joined ts)) (added old new ts n longer)
    ∙ ap (with_messages (message_capacity s) n) is_joined

-- all messages stay
all-kept : (old new : TablesView) (k : NamesSoFar) → NamesAre old k → All (λ h. list_any (is_like h) new.messages.held ≡ true) old.messages.held → kept_names old new k.messages ≡ k.messages
all-kept old new k was stay =
    ap (kept_names old new) was.messages
    ∙ kept-all (stays (message_list new.messages.held)) old.messages.held (λ i d lt. stays-is new.messages.held (get_or old.messages.held i d) ∙ stay i d lt)
    ∙ sym was.messages

pub names-length : (d : TablesView) (k : NamesSoFar) → NamesAre d k → length k.messages ≡ length d.messages.held
names-length d k was = ap (λ (ts : List SlotName). length ts) was.messages ∙ length-map d.messages.held (λ (h : Held QueuedMessage). slot_name h.slot)

-- ---- no connection or message comes, and no message goes

follows-changed : (s : System) (old new : TablesView) → KeepsConnectionNames old.connections new.connections → KeepsMessageNames old.messages new.messages → FollowsNames s old new
follows-changed s old new of_connections of_messages = λ k was.
    let stay : All (λ h. list_any (is_like h) new.messages.held ≡ true) old.messages.held = λ i d lt. of_messages.alike (get_or old.messages.held i d) ∙ stay-all old.messages.held i d lt in
    let now : NamesAre new k = names-stay old new k was of_connections of_messages in
    subst (NamesAre new) (sym (after-is s old new k k.messages 0 (all-kept old new k was stay) (omega (arith, names-length new k now)) of_connections.takes)) now

pub follows-same : (s : System) (old new : TablesView) → new.connections ≡ old.connections → new.messages ≡ old.messages → FollowsNames s old new
follows-same s old new of_connections of_messages = follows-changed s old new (connection-names-same old.connections new.connections of_connections) (message-names-same old.messages new.messages of_messages)

pub names-same : (s : System) (old new : TablesView) → new.connections ≡ old.connections → new.messages ≡ old.messages → KeepsNames s old new
names-same s old new of_connections of_messages = record { names = follows-same s old new of_connections of_messages; given = given-untouched old new of_connections of_messages }

-- where nothing changes
pub names_kept : (s : System) (d : TablesView) → KeepsNames s d d
names_kept s d = names-same s d d refl refl

-- a connection changes in its slot
pub follows-connection : (s : System) (old new : TablesView) (slot : Slot) (c changed : OpenConnection) → IsKept 256 old.connections → item_at old.connections slot ≡ Some c → changed.serial ≡ c.serial
    → new.connections ≡ with_item old.connections slot changed → new.messages ≡ old.messages → FollowsNames s old new
follows-connection s old new slot c changed kept live serial of_connections of_messages =
    follows-changed s old new (connection-names-to old.connections new.connections (with_item old.connections slot changed) of_connections (connection-names-item 256 old.connections slot c changed kept live serial)) (message-names-same old.messages new.messages of_messages)

pub names-connection : (s : System) (old new : TablesView) (slot : Slot) (c changed : OpenConnection) → IsKept 256 old.connections → item_at old.connections slot ≡ Some c → changed.serial ≡ c.serial
    → (is_some changed.handle ≡ false → is_some c.handle ≡ false) → new.connections ≡ with_item old.connections slot changed → new.messages ≡ old.messages → KeepsNames s old new
names-connection s old new slot c changed kept live serial told of_connections of_messages = record {
  names = follows-connection s old new slot c changed kept live serial of_connections of_messages;
  given = record { connections = given-connection old.connections new.connections slot c changed live told of_connections; messages = given-still _ _ old.messages new.messages of_messages };
}

-- a message changes in its slot
pub follows-message : (s : System) (old new : TablesView) (slot : Slot) (m changed : QueuedMessage) → IsKept 304 old.messages → item_at old.messages slot ≡ Some m → changed.serial ≡ m.serial → (changed.serial ≡ None → changed.client ≡ m.client)
    → changed.kind ≡ m.kind → new.connections ≡ old.connections → new.messages ≡ with_item old.messages slot changed → FollowsNames s old new
follows-message s old new slot m changed kept live serial client kind of_connections of_messages =
    follows-changed s old new (connection-names-same old.connections new.connections of_connections) (message-names-to old.messages new.messages (with_item old.messages slot changed) of_messages (message-names-item 304 old.messages slot m changed kept live serial client kind))

pub names-message : (s : System) (old new : TablesView) (slot : Slot) (m changed : QueuedMessage) → IsKept 304 old.messages → item_at old.messages slot ≡ Some m → changed.serial ≡ m.serial → (changed.serial ≡ None → changed.client ≡ m.client)
    → changed.kind ≡ m.kind → (changed.delivered ≡ false → m.delivered ≡ false) → new.connections ≡ old.connections → new.messages ≡ with_item old.messages slot changed → KeepsNames s old new
names-message s old new slot m changed kept live serial client kind told of_connections of_messages = record {
  names = follows-message s old new slot m changed kept live serial client kind of_connections of_messages;
  given = record {
    connections = given-still _ _ old.connections new.connections of_connections;
    messages = given-to _ _ old.messages new.messages (with_item old.messages slot changed) of_messages (given-put _ _ old.messages slot m changed live told);
  };
}

-- a connection is freed
pub follows-freed : (s : System) (old new : TablesView) (slot : Slot) → new.connections ≡ without old.connections slot → new.messages ≡ old.messages → FollowsNames s old new
follows-freed s old new slot of_connections of_messages =
    follows-changed s old new (connection-names-to old.connections new.connections (without old.connections slot) of_connections (connection-names-without old.connections slot)) (message-names-same old.messages new.messages of_messages)

pub names-freed : (s : System) (old new : TablesView) (slot : Slot) → new.connections ≡ without old.connections slot → new.messages ≡ old.messages → KeepsNames s old new
names-freed s old new slot of_connections of_messages = record {
  names = follows-freed s old new slot of_connections of_messages;
  given = record { connections = given-freed old.connections new.connections slot of_connections; messages = given-still _ _ old.messages new.messages of_messages };
}

-- ---- a message comes

connection_slots : (d : TablesView) (s : System) → MadeFor d s → length d.connections.generations ≡ capacity s
connection_slots d s made = ap (λ (h : Shape). h.connections) made

message_slots : (d : TablesView) (s : System) → MadeFor d s → length d.messages.generations ≡ message_capacity s
message_slots d s made = ap (λ (h : Shape). h.messages) made

stay-pushed : (old new : TablesView) (slot : Slot) (x : QueuedMessage) → new.messages ≡ taken old.messages slot x → All (λ h. list_any (is_like h) new.messages.held ≡ true) old.messages.held
stay-pushed old new slot x of_messages =
    subst (λ (p : Places QueuedMessage). All (λ h. list_any (is_like h) p.held ≡ true) old.messages.held) (sym of_messages) (stay-own old.messages.held (record { slot = slot; item = x } ∷ []))

pushed-length : (old new : TablesView) (k : NamesSoFar) (slot : Slot) (x : QueuedMessage) → NamesAre old k → new.messages ≡ taken old.messages slot x → length new.messages.held ≡ length k.messages + 1
pushed-length old new k slot x was of_messages =
    ap (λ (p : Places QueuedMessage). length p.held) of_messages ∙ omega (arith, length-append old.messages.held (record { slot = slot; item = x } ∷ []), names-length old k was)

follows-added : (s : System) (old new : TablesView) (slot : Slot) (x : QueuedMessage) → MadeFor old s → KeepsConnectionNames old.connections new.connections → free_slot old.messages ≡ Some slot → new.messages ≡ taken old.messages slot x → FollowsNames s old new
follows-added s old new slot x made of_connections free of_messages = λ k was.
    let mid : TablesView = record old { connections = new.connections } in
    let between : NamesAre mid k = names-stay old mid k was of_connections (message-names-same old.messages old.messages refl) in
    subst (NamesAre new) (sym (after-is s old new k k.messages 1 (all-kept old new k was (stay-pushed old new slot x of_messages)) (pushed-length old new k slot x was of_messages) of_connections.takes))
    (names-enqueued mid new k slot x (message_capacity s) between (message_slots old s made) free refl of_messages)

-- of no connection
pub names-added : (s : System) (old new : TablesView) (slot : Slot) (x : QueuedMessage) → MadeFor old s → new.connections ≡ old.connections → free_slot old.messages ≡ Some slot → new.messages ≡ taken old.messages slot x → KeepsNames s old new
names-added s old new slot x made of_connections free of_messages = record {
  names = follows-added s old new slot x made (connection-names-same old.connections new.connections of_connections) free of_messages;
  given = record { connections = given-still _ _ old.connections new.connections of_connections; messages = given-message old.messages new.messages slot x free of_messages };
}

-- of a connection that changes in its slot
pub follows-asked : (s : System) (old new : TablesView) (slot place : Slot) (c changed : OpenConnection) (x : QueuedMessage) → MadeFor old s → IsKept 256 old.connections → item_at old.connections slot ≡ Some c → changed.serial ≡ c.serial
    → new.connections ≡ with_item old.connections slot changed → free_slot old.messages ≡ Some place → new.messages ≡ taken old.messages place x → FollowsNames s old new
follows-asked s old new slot place c changed x made kept live serial of_connections free of_messages =
    follows-added s old new place x made (connection-names-to old.connections new.connections (with_item old.connections slot changed) of_connections (connection-names-item 256 old.connections slot c changed kept live serial)) free of_messages

pub names-asked : (s : System) (old new : TablesView) (slot place : Slot) (c changed : OpenConnection) (x : QueuedMessage) → MadeFor old s → IsKept 256 old.connections → item_at old.connections slot ≡ Some c → changed.serial ≡ c.serial
    → (is_some changed.handle ≡ false → is_some c.handle ≡ false) → new.connections ≡ with_item old.connections slot changed → free_slot old.messages ≡ Some place → new.messages ≡ taken old.messages place x → KeepsNames s old new
names-asked s old new slot place c changed x made kept live serial told of_connections free of_messages = record {
  names = follows-asked s old new slot place c changed x made kept live serial of_connections free of_messages;
  given = record { connections = given-connection old.connections new.connections slot c changed live told of_connections; messages = given-message old.messages new.messages place x free of_messages };
}

-- ---- a connection comes, and its message

live-named : (ts : List SlotName) (hs : List (Held OpenConnection)) → All (IsNamedBy ts) hs
    → map (λ (c : OpenConnection). get_or ts c.serial no_slot) (map (λ (h : Held OpenConnection). h.item) hs) ≡ map (λ (h : Held OpenConnection). slot_name h.slot) hs
live-named ts [] named = refl
live-named ts (h ∷ hs) named =
    ap (λ (t : SlotName). t ∷ map (λ (c : OpenConnection). get_or ts c.serial no_slot) (map (λ (x : Held OpenConnection). x.item) hs)) (All-head (IsNamedBy ts) h hs named)
    ∙ ap (λ (us : List SlotName). slot_name h.slot ∷ us) (live-named ts hs (All-tail (IsNamedBy ts) h hs named))

pub follows-connected : (s : System) (old new : TablesView) (slot place : Slot) (c : OpenConnection) (x : QueuedMessage) → MadeFor old s → IsTable old.connections → free_slot old.connections ≡ Some slot → c.serial ≡ old.connections.takes
    → new.connections ≡ taken old.connections slot c → free_slot old.messages ≡ Some place → new.messages ≡ taken old.messages place x → FollowsNames s old new
follows-connected s old new slot place c x made table free serial of_connections room of_messages = λ k was.
    let size : ℕ = capacity s in
    let mid : TablesView = record old { connections = new.connections } in
    let next : slot_name slot ≡ next_slot size (live_connections k (spm_of old)) k.connections =
    next-name old.connections k.connections slot was.past_connections free
    ∙ ap (λ n. next_slot n (live_names old.connections) k.connections) (connection_slots old s made)
    ∙ ap (λ (ts : List SlotName). next_slot size ts k.connections) (sym (live-named k.connections old.connections.held was.connections)) in
    let joined : SlotName → NamesSoFar = λ t. record k { connections = k.connections ++ t ∷ [] } in
    let between : NamesAre mid (joined (slot_name slot)) = names-started old mid k slot c was table free serial of_connections refl in
    let grown : new.connections.takes ≡ old.connections.takes + 1 = ap (λ (p : Places OpenConnection). p.takes) of_connections in
    subst (NamesAre new)
    (ap (λ t. with_messages (message_capacity s) 1 (joined t)) next
    ∙ sym (after-joined s old new k k.messages 1 (all-kept old new k was (stay-pushed old new place x of_messages)) (pushed-length old new k place x was of_messages) grown))
    (names-enqueued mid new (joined (slot_name slot)) place x (message_capacity s) between (message_slots old s made) room refl of_messages)

pub names-connected : (s : System) (old new : TablesView) (slot place : Slot) (c : OpenConnection) (x : QueuedMessage) → MadeFor old s → IsTable old.connections → free_slot old.connections ≡ Some slot → c.serial ≡ old.connections.takes
    → new.connections ≡ taken old.connections slot c → free_slot old.messages ≡ Some place → new.messages ≡ taken old.messages place x → KeepsNames s old new
names-connected s old new slot place c x made table free serial of_connections room of_messages = record {
  names = follows-connected s old new slot place c x made table free serial of_connections room of_messages;
  given = record {
    connections = given-to _ _ old.connections new.connections (taken old.connections slot c) of_connections (given-taken _ _ old.connections slot c free);
    messages = given-message old.messages new.messages place x room of_messages;
  };
}
