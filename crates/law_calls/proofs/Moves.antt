-- What a single change of the tables does to their names.
use Rattle.std.proofs.Common.{ℕ, zero, suc, ◌≡◌, ◌<◌, ◌≤◌, ◌+◌, ◌==◌, Bool, true, false, cond, not, ◌&&◌, ◌||◌, List, [], ◌∷◌, ◌++◌, length, map, get_or, arith, ◌∙◌, ap, sym, refl, subst, length-append}
use Rattle.std.specs.Prelude.{ℤ, All, Option, Some, None, count_by, find, is_some}
use Rattle.std.specs.Ordering.{int_eq}
use Rattle.std.specs.List.{list_any, filter_map}
use Rattle.std.proofs.Math.Seq.{get_or-append_seam}
use Rattle.std.proofs.lemmas.List.{get_or_append_left, map_push}
use Rattle.std.proofs.lemmas.List.Elements.{All-cons, All-head, All-map, All-nil, All-push, All-tail, All-weaker, All-filter}
use Rattle.ffm_model.specs.declared.machine.ActorId.{ActorId}
use Rattle.ffm_model.specs.declared.objects.OpenConnection.{OpenConnection}
use Rattle.ffm_model.specs.State.{Rises}
use Rattle.ffm_model.specs.Names.{NamesSoFar, SlotName, is_same_connection, next_slot, no_slot, with_messages}
use Rattle.ffm_model.proofs.SerialLemmas.{rises-bounds}
use Rattle.object_pools.specs.declared.slot.Slot.{Slot}
use Rattle.object_pools.specs.declared.slot.Held.{Held}
use Rattle.object_pools.specs.Pool.{Places, IsKept, free_slot, has_slot, item_at, item_put, taken, with_item, without}
use Rattle.law_lists.proofs.Counts.{bit, count-cons}
use Rattle.handle_table.specs.Handles.{live_names, slot_name}
use Rattle.handle_table.specs.Table.{IsTable, connections}
use Rattle.handle_table.proofs.NameLemmas.{next-name, past-after}
use Rattle.handle_table.proofs.SlotLemmas.{held-of, one_slot}
use Rattle.spm_tables.specs.declared.item.QueuedMessage.{QueuedMessage}
use Rattle.spm_tables.specs.TablesView.{TablesView}
use Rattle.law_calls.specs.Named.{NamesAre, IsNamedBy}
use Rattle.law_calls.specs.PoolChanges.{KeepsConnectionNames, KeepsMessageNames, is_like}
use Rattle.law_calls.proofs.Given.{All-left}
use Rattle.law_calls.proofs.KeptSlots.{name_list}
use Rattle.law_counting.proofs.Pairs.{member-counts}

-- ---- pools that change without a take

-- by another name of the new one
pub connection-names-to : (old new changed : Places OpenConnection) → new ≡ changed → KeepsConnectionNames old changed → KeepsConnectionNames old new
connection-names-to old new changed same it = subst (KeepsConnectionNames old) (sym same) it

pub connection-names-same : (old new : Places OpenConnection) → new ≡ old → KeepsConnectionNames old new
connection-names-same old new same = connection-names-to old new old same (record { generations = refl; takes = refl; held = λ ts named. named })

-- ---- an item changes in its slot

module _ {T : Type 0} where
  none-passes : (p : Held T → Bool) (Q : Held T → Type 0) (hs : List (Held T)) → count_by p hs ≡ 0 → All (λ x. p x ≡ true → Q x) hs
  none-passes p Q hs none = λ k d lt e. absurd (omega (arith, member-counts p hs k d lt, none, ap bit e))

  -- where one item at most passes, each that passes is the one that is found
  only-found : (p : Held T → Bool) (hs : List (Held T)) (h : Held T) → find p hs ≡ Some h → count_by p hs ≤ 1 → All (λ x. p x ≡ true → x.item ≡ h.item) hs
  only-found p [] h found one = All-nil (λ x. p x ≡ true → x.item ≡ h.item)
  only-found p (y ∷ ys) h found one =
      let few : bit (p y) + count_by p ys ≤ 1 = omega (arith, count-cons p y ys, one) in
      let go : (b : Bool) → p y ≡ b → bit b + count_by p ys ≤ 1 → cond b (Some y) (find p ys) ≡ Some h → All (λ x. p x ≡ true → x.item ≡ h.item) (y ∷ ys) =
      elim [
        | true ↦ λ e n f.
            let it : y ≡ h = cc in
            All-cons (λ x. p x ≡ true → x.item ≡ h.item) y ys (λ g. ap (λ (z : Held T). z.item) it) (none-passes p (λ x. x.item ≡ h.item) ys (omega (arith, n)))
        | false ↦ λ e n f.
            All-cons (λ x. p x ≡ true → x.item ≡ h.item) y ys (λ g. cc) (only-found p ys h f (omega (arith, n)))
      ] in
      go (p y) refl few found

  -- what is live in a slot is its one item
  pub only-item : (capacity : ℕ) (p : Places T) (s : Slot) (c : T) → IsKept capacity p → item_at p s ≡ Some c → All (λ h. has_slot s h ≡ true → h.item ≡ c) p.held
  only-item capacity p s c kept live =
      let it = held-of p s c live in
      All-weaker (λ h. has_slot s h ≡ true → h.item ≡ it.0.item) (λ h. has_slot s h ≡ true → h.item ≡ c) (λ h same e. same e ∙ it.2) p.held
      (only-found (has_slot s) p.held it.0 it.1 (one_slot capacity p s kept))

  put-slot : (s : Slot) (x : T) (h : Held T) → (item_put s x h).slot ≡ h.slot
  put-slot s x h =
      let go : (b : Bool) → (cond {A = Held T} b (record h { item = x }) h).slot ≡ h.slot = elim [ true ↦ refl | false ↦ refl ] in
      go (has_slot s h)

put-named : (ts : List SlotName) (s : Slot) (c : OpenConnection) (h : Held OpenConnection) → (has_slot s h ≡ true → h.item.serial ≡ c.serial) → IsNamedBy ts h → IsNamedBy ts (item_put s c h)
put-named ts s c h same named =
    let go : (b : Bool) → has_slot s h ≡ b → IsNamedBy ts (cond {A = Held OpenConnection} b (record h { item = c }) h) =
    elim [ true ↦ λ e. ap (λ n. get_or ts n no_slot) (sym (same e)) ∙ named | false ↦ λ e. named ] in
    go (has_slot s h) refl

pub connection-names-item : (capacity : ℕ) (p : Places OpenConnection) (s : Slot) (c changed : OpenConnection) → IsKept capacity p → item_at p s ≡ Some c → changed.serial ≡ c.serial → KeepsConnectionNames p (with_item p s changed)
connection-names-item capacity p s c changed kept live serial = record {
  generations = refl;
  takes = refl;
  held = λ ts named.
      All-map (IsNamedBy ts) (item_put s changed) p.held
      (λ k d lt. put-named ts s changed (get_or p.held k d) (λ e. ap (λ (x : OpenConnection). x.serial) (only-item capacity p s c kept live k d lt e) ∙ sym serial) (named k d lt));
}

pub connection-names-without : (p : Places OpenConnection) (s : Slot) → KeepsConnectionNames p (without p s)
connection-names-without p s = record {
  generations = refl;
  takes = refl;
  held = λ ts named. All-filter (λ h. not (has_slot s h)) (IsNamedBy ts) p.held named;
}

-- some connections go, and others change in their slots
pub connection-names-some : (p : Places OpenConnection) (f : Held OpenConnection → Option (Held OpenConnection))
    → ((h g : Held OpenConnection) → f h ≡ Some g → (g.slot ≡ h.slot) × (g.item.serial ≡ h.item.serial))
    → KeepsConnectionNames p (record p { held = filter_map f p.held })
connection-names-some p f same = record {
  generations = refl;
  takes = refl;
  held = λ ts named. All-left (IsNamedBy ts) f (λ h g e is. let it = same h g e in ap (λ n. get_or ts n no_slot) it.1 ∙ is ∙ ap slot_name (sym it.0)) p.held named;
}

pub message-names-to : (old new changed : Places QueuedMessage) → new ≡ changed → KeepsMessageNames old changed → KeepsMessageNames old new
message-names-to old new changed same it = subst (KeepsMessageNames old) (sym same) it

pub message-names-same : (old new : Places QueuedMessage) → new ≡ old → KeepsMessageNames old new
message-names-same old new same = message-names-to old new old same (record { generations = refl; takes = refl; names = refl; alike = λ h. refl })

names-put : (s : Slot) (m : QueuedMessage) (hs : List (Held QueuedMessage)) → name_list (map (item_put s m) hs) ≡ name_list hs
names-put s m [] = refl
names-put s m (h ∷ hs) = ap (λ (u : Slot). slot_name u ∷ name_list (map (item_put s m) hs)) (put-slot s m h) ∙ ap (λ (ts : List SlotName). slot_name h.slot ∷ ts) (names-put s m hs)

-- of one connection, or where there is none of one client, and of one kind
record IsSameItem (m n : QueuedMessage) : Type 0 where
  serial : m.serial ≡ n.serial
  client : m.serial ≡ None → m.client ≡ n.client
  kind : m.kind ≡ n.kind

-- the client counts only where there is no connection
like-client : (o p : Option ℕ) (b c k : Bool) → (o ≡ None → b ≡ c) → (is_same_connection o p && ((is_some p || b) && k)) ≡ (is_same_connection o p && ((is_some p || c) && k))
like-client o (Some y) b c k same = refl
like-client (Some x) None b c k same = refl
like-client None None b c k same = ap (λ z. z && k) (same refl)

like-put : (s : Slot) (m : QueuedMessage) (x h : Held QueuedMessage) → (has_slot s h ≡ true → IsSameItem h.item m) → is_like x (item_put s m h) ≡ is_like x h
like-put s m x h same =
    let go : (b : Bool) → has_slot s h ≡ b → is_like x (cond {A = Held QueuedMessage} b (record h { item = m }) h) ≡ is_like x h =
    elim [
      | true ↦ λ e.
          let it : IsSameItem h.item m = same e in
          ap (λ (n : Option ℕ). is_same_connection n x.item.serial && ((is_some x.item.serial || (m.client.0 == x.item.client.0)) && int_eq m.kind x.item.kind)) (sym it.serial)
          ∙ like-client h.item.serial x.item.serial (m.client.0 == x.item.client.0) (h.item.client.0 == x.item.client.0) (int_eq m.kind x.item.kind) (λ n. ap (λ (a : ActorId). a.0 == x.item.client.0) (sym (it.client n)))
          ∙ ap (λ (z : ℤ). is_same_connection h.item.serial x.item.serial && ((is_some x.item.serial || (h.item.client.0 == x.item.client.0)) && int_eq z x.item.kind)) (sym it.kind)
      | false ↦ λ e. refl
    ] in
    go (has_slot s h) refl

likes-put : (s : Slot) (m : QueuedMessage) (x : Held QueuedMessage) (hs : List (Held QueuedMessage)) → All (λ h. has_slot s h ≡ true → IsSameItem h.item m) hs
    → list_any (is_like x) (map (item_put s m) hs) ≡ list_any (is_like x) hs
likes-put s m x [] same = refl
likes-put s m x (h ∷ hs) same =
    let P : Held QueuedMessage → Type 0 = λ y. has_slot s y ≡ true → IsSameItem y.item m in
    ap (λ b. b || list_any (is_like x) (map (item_put s m) hs)) (like-put s m x h (All-head P h hs same)) ∙ ap (λ b. is_like x h || b) (likes-put s m x hs (All-tail P h hs same))

pub message-names-item : (capacity : ℕ) (p : Places QueuedMessage) (s : Slot) (m changed : QueuedMessage) → IsKept capacity p → item_at p s ≡ Some m → changed.serial ≡ m.serial → (changed.serial ≡ None → changed.client ≡ m.client) → changed.kind ≡ m.kind
    → KeepsMessageNames p (with_item p s changed)
message-names-item capacity p s m changed kept live serial client kind = record {
  generations = refl;
  takes = refl;
  names = names-put s changed p.held;
  alike = λ x.
      likes-put s changed x p.held
      (λ k d lt e.
      let it : (get_or p.held k d).item ≡ m = only-item capacity p s m kept live k d lt e in
      record {
        serial = ap (λ (y : QueuedMessage). y.serial) it ∙ sym serial;
        client = λ n. ap (λ (y : QueuedMessage). y.client) it ∙ sym (client (serial ∙ sym (ap (λ (y : QueuedMessage). y.serial) it) ∙ n));
        kind = ap (λ (y : QueuedMessage). y.kind) it ∙ sym kind;
      });
}

-- ---- the names of changed tables

-- some slots were put back at most
pub names-with : (old new : TablesView) (k : NamesSoFar) (ts : List SlotName) → NamesAre old k → KeepsConnectionNames old.connections new.connections → new.messages.generations ≡ old.messages.generations → new.messages.takes ≡ old.messages.takes → ts ≡ live_names new.messages
    → NamesAre new (record k { messages = ts })
names-with old new k ts was of_connections generations takes names = record {
  made = was.made ∙ sym of_connections.takes;
  connections = of_connections.held k.connections was.connections;
  past_connections = record { uses = λ i. was.past_connections.uses i ∙ ap (λ gs. get_or gs i 0) (sym of_connections.generations) };
  messages = names;
  past_messages = record { uses = λ i. was.past_messages.uses i ∙ ap (λ gs. get_or gs i 0) (sym generations) };
  sent = was.sent ∙ sym takes;
}

-- no message comes or goes
pub names-stay : (old new : TablesView) (k : NamesSoFar) → NamesAre old k → KeepsConnectionNames old.connections new.connections → KeepsMessageNames old.messages new.messages → NamesAre new k
names-stay old new k was of_connections of_messages = names-with old new k k.messages was of_connections of_messages.generations of_messages.takes (was.messages ∙ sym of_messages.names)

-- the serial numbers are below the number of connections made
below-made : (low made : ℕ) (cs : List OpenConnection) → Rises low cs made → All (λ c. c.serial < made) cs
below-made low made [] rises = All-nil (λ c. c.serial < made)
below-made low made (c ∷ cs) rises =
    All-cons (λ d. d.serial < made) c cs (omega (arith, rises-bounds (c.serial + 1) made cs rises.1)) (below-made (c.serial + 1) made cs rises.1)

named-later : (ts : List SlotName) (t : SlotName) (hs : List (Held OpenConnection)) → All (λ c. c.serial < length ts) (map (λ (h : Held OpenConnection). h.item) hs) → All (IsNamedBy ts) hs → All (IsNamedBy (ts ++ t ∷ [])) hs
named-later ts t [] below named = All-nil (IsNamedBy (ts ++ t ∷ []))
named-later ts t (h ∷ hs) below named =
    let cs : List OpenConnection = map (λ (x : Held OpenConnection). x.item) hs in
    All-cons (IsNamedBy (ts ++ t ∷ [])) h hs
    (get_or_append_left ts (t ∷ []) no_slot h.item.serial (All-head (λ c. c.serial < length ts) h.item cs below) ∙ All-head (IsNamedBy ts) h hs named)
    (named-later ts t hs (All-tail (λ c. c.serial < length ts) h.item cs below) (All-tail (IsNamedBy ts) h hs named))

-- a connection is made in its slot
pub names-started : (old new : TablesView) (k : NamesSoFar) (slot : Slot) (c : OpenConnection) → NamesAre old k → IsTable old.connections → free_slot old.connections ≡ Some slot → c.serial ≡ old.connections.takes
    → new.connections ≡ taken old.connections slot c → new.messages ≡ old.messages → NamesAre new (record k { connections = k.connections ++ slot_name slot ∷ [] })
names-started old new k slot c was table free serial of_connections of_messages =
    let ts : List SlotName = k.connections in
    let t : SlotName = slot_name slot in
    let below : All (λ d. d.serial < length ts) (connections old.connections) =
    subst (λ n. All (λ d. d.serial < n) (connections old.connections)) (sym was.made) (below-made 0 old.connections.takes (connections old.connections) table.rising) in
    let here : get_or (ts ++ t ∷ []) c.serial no_slot ≡ t = ap (λ n. get_or (ts ++ t ∷ []) n no_slot) (serial ∙ sym was.made) ∙ get_or-append_seam ts t [] no_slot in
    let it : NamesAre (record old { connections = taken old.connections slot c }) (record k { connections = ts ++ t ∷ [] }) = record {
      made = omega (arith, length-append ts (t ∷ []), was.made);
      connections = All-push (IsNamedBy (ts ++ t ∷ [])) old.connections.held (record { slot = slot; item = c }) (named-later ts t old.connections.held below was.connections) here;
      past_connections = past-after old.connections ts slot c was.past_connections free;
      messages = was.messages;
      past_messages = was.past_messages;
      sent = was.sent;
    } in
    names-stay (record old { connections = taken old.connections slot c }) new (record k { connections = ts ++ t ∷ [] }) it (connection-names-same (taken old.connections slot c) new.connections of_connections) (message-names-same old.messages new.messages of_messages)

-- a message more, with the next slot
abbrev pub one_more : ℕ → NamesSoFar → NamesSoFar
one_more size k =
    let t = next_slot size k.messages k.past_messages in
    record k { messages = k.messages ++ t ∷ []; past_messages = k.past_messages ++ t ∷ [] }

-- a message is taken in
pub names-enqueued : (old new : TablesView) (k : NamesSoFar) (slot : Slot) (x : QueuedMessage) (size : ℕ) → NamesAre old k → length old.messages.generations ≡ size → free_slot old.messages ≡ Some slot
    → new.connections ≡ old.connections → new.messages ≡ taken old.messages slot x → NamesAre new (one_more size k)
names-enqueued old new k slot x size was wide free of_connections of_messages =
    let t : SlotName = slot_name slot in
    let next : t ≡ next_slot size k.messages k.past_messages =
    next-name old.messages k.past_messages slot was.past_messages free ∙ ap (λ n. next_slot n (live_names old.messages) k.past_messages) wide ∙ ap (λ (ts : List SlotName). next_slot size ts k.past_messages) (sym was.messages) in
    let more : SlotName → NamesSoFar = λ u. record k { messages = k.messages ++ u ∷ []; past_messages = k.past_messages ++ u ∷ [] } in
    let it : NamesAre (record old { messages = taken old.messages slot x }) (more t) = record {
      made = was.made;
      connections = was.connections;
      past_connections = was.past_connections;
      messages = ap (λ (ts : List SlotName). ts ++ t ∷ []) was.messages ∙ sym (map_push (λ (h : Held QueuedMessage). slot_name h.slot) old.messages.held (record { slot = slot; item = x }));
      past_messages = past-after old.messages k.past_messages slot x was.past_messages free;
      sent = omega (arith, length-append k.past_messages (t ∷ []), was.sent);
    } in
    subst (λ u. NamesAre new (more u)) next
    (names-stay (record old { messages = taken old.messages slot x }) new (more t) it (connection-names-same old.connections new.connections of_connections) (message-names-same (taken old.messages slot x) new.messages of_messages))

-- n messages and one more
pub messages-more : (size n : ℕ) (k : NamesSoFar) → with_messages size (suc n) k ≡ one_more size (with_messages size n k)
messages-more size zero k = refl
messages-more size (suc n) k = messages-more size n (one_more size k)
