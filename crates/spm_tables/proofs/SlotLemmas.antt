-- Which connection a message belongs to, after a connection or a message comes, changes or goes.
use Rattle.std.proofs.Common.{ℕ, ◌≡◌, ◌<◌, ◌≤◌, ◌+◌, ◌==◌, Bool, true, false, cond, not, List, [], ◌∷◌, arith, ◌∙◌, ap, sym, refl, subst}
use Rattle.std.specs.Prelude.{find, Option, Some, None, map, All, IsSome, IfSome}
use Rattle.std.specs.Option.{option_map}
use Rattle.std.proofs.lemmas.List.Elements.{All-nil, All-cons, All-push, All-filter, All-weaker, All-map}
use Rattle.std.proofs.lemmas.Bool.{eqb-true}
use Rattle.ffm_model.specs.declared.objects.OpenConnection.{OpenConnection}
use Rattle.ffm_model.specs.State.{Rises}
use Rattle.ffm_model.proofs.SerialLemmas.{rises-bounds}
use Rattle.object_pools.specs.declared.slot.Slot.{Slot}
use Rattle.object_pools.specs.declared.slot.Held.{Held}
use Rattle.object_pools.specs.Pool.{Places, IsKept, has_slot, item_at, item_put, taken, with_item, without}
use Rattle.object_pools.proofs.Stores.{has_own}
use Rattle.handle_table.specs.Table.{connections, IsTable}
use Rattle.handle_table.proofs.SlotLemmas.{one_slot, slot-is, held-of}
use Rattle.law_lists.proofs.Tests.{find-passes, find-all, find-map}
use Rattle.spm_tables.specs.declared.item.MessageItem.{MessageItem}
use Rattle.spm_tables.specs.declared.item.QueuedMessage.{QueuedMessage}
use Rattle.spm_tables.specs.TablesView.{queued, queued_as, serial_at}
use Rattle.spm_tables.specs.Queues.{QueuesView}
use Rattle.spm_tables.specs.Slots.{BelongsTo, KeepSlots}
use Rattle.spm_tables.proofs.MessageLemmas.{found-too}

-- if it is the message's connection, the message names its slot
abbrev Slotted : QueuedMessage → Held OpenConnection → Type 0
Slotted m h = m.serial ≡ Some h.item.serial → m.connection ≡ Some h.slot

pub named-slot : (p : Places OpenConnection) (s : Slot) (c : OpenConnection) (m : QueuedMessage) → BelongsTo p m → item_at p s ≡ Some c → m.serial ≡ Some c.serial → m.connection ≡ Some s
named-slot p s c m b live same =
    let it = held-of p s c live in
    find-all (Slotted m) (has_slot s) p.held it.0 it.1 b.slot (same ∙ ap (λ (d : OpenConnection). Some d.serial) (sym it.2)) ∙ ap (λ (t : Slot). Some t) it.3

-- ---- changes of the connections

pub slots-change : (p : Places OpenConnection) (w : Places QueuedMessage) (s : Slot) (c d : OpenConnection) → item_at p s ≡ Some c → d.serial ≡ c.serial → KeepSlots p w → KeepSlots (with_item p s d) w
slots-change p w s c d live same k =
    All-weaker (λ h. BelongsTo p h.item) (λ h. BelongsTo (with_item p s d) h.item)
    (λ h b. record {
      made = b.made;
      slot = All-map (Slotted h.item) (item_put s d) p.held
          (All-weaker (Slotted h.item) (λ x. Slotted h.item (item_put s d x)) (λ x old. put h.item b x old (has_slot s x) refl) p.held b.slot);
    }) w.held k where
      put : (m : QueuedMessage) → BelongsTo p m → (x : Held OpenConnection) → Slotted m x → (b : Bool) → has_slot s x ≡ b → Slotted m (cond b (record x { item = d }) x)
      put m b x old true e = λ serial. named-slot p s c m b live (serial ∙ ap (λ n. Some n) same) ∙ ap (λ (t : Slot). Some t) (sym (slot-is s x e))
      put m b x old false e = old

pub slots-changed : (p q : Places OpenConnection) (w : Places QueuedMessage) (s : Slot) (f : OpenConnection → OpenConnection) → ((c : OpenConnection) → (f c).serial ≡ c.serial)
    → IsSome (item_at p s) → IfSome (item_at p s) (λ c. q ≡ with_item p s (f c)) → KeepSlots p w → KeepSlots q w
slots-changed p q w s f same some change k =
    let go : (o : Option OpenConnection) → item_at p s ≡ o → IsSome o → IfSome o (λ c. q ≡ with_item p s (f c)) → KeepSlots q w =
    elim [
      | None ↦ λ e n i. cc
      | Some c ↦ λ e n i. subst (λ (r : Places OpenConnection). KeepSlots r w) (sym i) (slots-change p w s c (f c) e (same c) k)
    ] in
    go (item_at p s) refl some change

pub slots-free : (p : Places OpenConnection) (w : Places QueuedMessage) (s : Slot) → KeepSlots p w → KeepSlots (without p s) w
slots-free p w s k =
    All-weaker (λ h. BelongsTo p h.item) (λ h. BelongsTo (without p s) h.item)
    (λ h b. record { made = b.made; slot = All-filter (λ x. not (has_slot s x)) (Slotted h.item) p.held b.slot }) w.held k

-- ---- changes of the messages

pub belongs-at : (p : Places OpenConnection) (w : Places QueuedMessage) (s : Slot) (m : QueuedMessage) → KeepSlots p w → item_at w s ≡ Some m → BelongsTo p m
belongs-at p w s m k live =
    let it = held-of w s m live in
    subst (BelongsTo p) it.2 (find-all (λ h. BelongsTo p h.item) (has_slot s) w.held it.0 it.1 k)

pub slots-take : (p : Places OpenConnection) (w : Places QueuedMessage) (s : Slot) (m : QueuedMessage) → BelongsTo p m → KeepSlots p w → KeepSlots p (taken w s m)
slots-take p w s m b k = All-push (λ h. BelongsTo p h.item) w.held (record { slot = s; item = m }) k b

pub slots-put : (p : Places OpenConnection) (w : Places QueuedMessage) (s : Slot) (m n : QueuedMessage) → item_at w s ≡ Some m → n.serial ≡ m.serial → n.connection ≡ m.connection
    → KeepSlots p w → KeepSlots p (with_item w s n)
slots-put p w s m n live serial slot k =
    All-map (λ h. BelongsTo p h.item) (item_put s n) w.held
    (All-weaker (λ h. BelongsTo p h.item) (λ h. BelongsTo p (item_put s n h).item) (λ h old. put h old (has_slot s h)) w.held k) where
      new : BelongsTo p m → BelongsTo p n
      new b = record { made = subst (λ (k : Option ℕ). IfSome k (λ i. i < p.takes)) (sym serial) b.made; slot = All-weaker (Slotted m) (Slotted n) (λ h old e. slot ∙ old (sym serial ∙ e)) p.held b.slot }

      put : (h : Held QueuedMessage) → BelongsTo p h.item → (b : Bool) → BelongsTo p (cond b (record h { item = n }) h).item
      put h old true = new (belongs-at p w s m k live)
      put h old false = old

-- a message is written, of the same connection
pub slots-written : (p : Places OpenConnection) (q r : QueuesView) (s : Slot) (f : QueuedMessage → QueuedMessage) → ((m : QueuedMessage) → (f m).serial ≡ m.serial) → ((m : QueuedMessage) → (f m).connection ≡ m.connection)
    → IsSome (item_at q.messages s) → IfSome (item_at q.messages s) (λ m. r ≡ record q { messages = with_item q.messages s (f m) }) → KeepSlots p q.messages → KeepSlots p r.messages
slots-written p q r s f serial slot some after k = go (item_at q.messages s) refl some after where
  go : (o : Option QueuedMessage) → item_at q.messages s ≡ o → IsSome o → IfSome o (λ m. r ≡ record q { messages = with_item q.messages s (f m) }) → KeepSlots p r.messages
  go None e n a = cc
  go (Some m) e n a = subst (λ (x : QueuesView). KeepSlots p x.messages) (sym a) (slots-put p q.messages s m (f m) e (serial m) (slot m) k)

pub services-written : (q r : QueuesView) (s : Slot) (f : QueuedMessage → QueuedMessage) → IsSome (item_at q.messages s)
    → IfSome (item_at q.messages s) (λ m. r ≡ record q { messages = with_item q.messages s (f m) }) → r.services ≡ q.services
services-written q r s f = go (item_at q.messages s) where
  go : (o : Option QueuedMessage) → IsSome o → IfSome o (λ m. r ≡ record q { messages = with_item q.messages s (f m) }) → r.services ≡ q.services
  go None n a = cc
  go (Some m) n a = ap (λ (x : QueuesView). x.services) a

pub slots-drop : (p : Places OpenConnection) (w : Places QueuedMessage) (s : Slot) → KeepSlots p w → KeepSlots p (without w s)
slots-drop p w s k = All-filter (λ h. not (has_slot s h)) (λ h. BelongsTo p h.item) w.held k

-- ---- serial numbers

above-all : (low made : ℕ) (held : List (Held OpenConnection)) → Rises low (map (λ (h : Held OpenConnection). h.item) held) made → All (λ h. low ≤ h.item.serial) held
above-all low made [] r = All-nil (λ h. low ≤ h.item.serial)
above-all low made (x ∷ xs) r =
    All-cons (λ h. low ≤ h.item.serial) x xs r.0
    (All-weaker (λ h. x.item.serial + 1 ≤ h.item.serial) (λ h. low ≤ h.item.serial) (λ h a. omega (arith, r.0)) xs (above-all (x.item.serial + 1) made xs r.1))

below-made : (low made : ℕ) (held : List (Held OpenConnection)) → Rises low (map (λ (h : Held OpenConnection). h.item) held) made → All (λ h. h.item.serial < made) held
below-made low made [] r = All-nil (λ h. h.item.serial < made)
below-made low made (x ∷ xs) r =
    All-cons (λ h. h.item.serial < made) x xs
    (omega (arith, rises-bounds (x.item.serial + 1) made (map (λ (h : Held OpenConnection). h.item) xs) r.1)) (below-made (x.item.serial + 1) made xs r.1)

-- two live connections of one serial number are in one slot
one-place : (low made : ℕ) (held : List (Held OpenConnection)) (q : Held OpenConnection → Bool) (x : Held OpenConnection) → Rises low (map (λ (h : Held OpenConnection). h.item) held) made → find q held ≡ Some x
    → All (λ h. h.item.serial ≡ x.item.serial → h.slot ≡ x.slot) held
one-place low made [] q x r f = cc
one-place low made (y ∷ ys) q x r f =
    let later : All (λ h. y.item.serial + 1 ≤ h.item.serial) ys = above-all (y.item.serial + 1) made ys r.1 in
    let go : (b : Bool) → cond b (Some y) (find q ys) ≡ Some x → All (λ h. h.item.serial ≡ x.item.serial → h.slot ≡ x.slot) (y ∷ ys) =
    elim [
      | true ↦ λ g.
          let it : y ≡ x = cc in
          let same : y.item.serial ≡ x.item.serial = ap (λ (h : Held OpenConnection). h.item.serial) it in
          All-cons (λ h. h.item.serial ≡ x.item.serial → h.slot ≡ x.slot) y ys (λ e. ap (λ (h : Held OpenConnection). h.slot) it)
          (All-weaker (λ h. y.item.serial + 1 ≤ h.item.serial) (λ h. h.item.serial ≡ x.item.serial → h.slot ≡ x.slot) (λ h a e. absurd {A = h.slot ≡ x.slot} (omega arith)) ys later)
      | false ↦ λ g.
          let after : y.item.serial + 1 ≤ x.item.serial = find-all (λ h. y.item.serial + 1 ≤ h.item.serial) q ys x g later in
          All-cons (λ h. h.item.serial ≡ x.item.serial → h.slot ≡ x.slot) y ys (λ e. absurd (omega arith)) (one-place (y.item.serial + 1) made ys q x r.1 g)
    ] in
    go (q y) f

-- ---- a message of a connection

-- of a live one, in its slot
belongs-to : (p : Places OpenConnection) (s : Slot) (c : OpenConnection) (m : QueuedMessage) → IsTable p → item_at p s ≡ Some c → m.serial ≡ Some c.serial → m.connection ≡ Some s → BelongsTo p m
belongs-to p s c m t live serial names =
    let it = held-of p s c live in
    let same : (it.0).item.serial ≡ c.serial = ap (λ (d : OpenConnection). d.serial) it.2 in
    record {
      made = subst (λ (k : Option ℕ). IfSome k (λ i. i < p.takes)) (sym serial) (omega (arith, same, find-all (λ h. h.item.serial < p.takes) (has_slot s) p.held it.0 it.1 (below-made 0 p.takes p.held t.rising)));
      slot = All-weaker (λ h. h.item.serial ≡ (it.0).item.serial → h.slot ≡ (it.0).slot) (Slotted m)
          (λ h one e. names ∙ ap (λ (u : Slot). Some u) (sym (one (let is : h.item.serial ≡ c.serial = cc in is ∙ sym same) ∙ it.3))) p.held (one-place 0 p.takes p.held (has_slot s) it.0 t.rising it.1);
    }

-- of none
belongs-nowhere : (p : Places OpenConnection) (m : QueuedMessage) → IsKept 256 p → IsTable p → m.serial ≡ None → BelongsTo p m
belongs-nowhere p m kept t serial = record {
  made = subst (λ (k : Option ℕ). IfSome k (λ i. i < p.takes)) (sym serial) tt;
  slot = All-weaker (λ h. h.item.serial < p.takes) (Slotted m) (λ h below e. cc) p.held (below-made 0 p.takes p.held t.rising);
}

-- of the one in its slot, or of none where none is there
pub belongs-queued : (p : Places OpenConnection) (m : MessageItem) → IsKept 256 p → IsTable p → BelongsTo p (queued p m)
belongs-queued p m kept t = in_slot m.connection refl where
  there : (s : Slot) (o : Option OpenConnection) → m.connection ≡ Some s → item_at p s ≡ o → BelongsTo p (queued p m)
  there s None e live = belongs-nowhere p (queued p m) kept t (ap (serial_at p) e ∙ ap (λ (o : Option OpenConnection). option_map (λ c. c.serial) o) live)
  there s (Some c) e live = belongs-to p s c (queued p m) t live (ap (serial_at p) e ∙ ap (λ (o : Option OpenConnection). option_map (λ c. c.serial) o) live) e

  in_slot : (o : Option Slot) → m.connection ≡ o → BelongsTo p (queued p m)
  in_slot None e = belongs-nowhere p (queued p m) kept t (ap (serial_at p) e)
  in_slot (Some s) e = there s (item_at p s) e refl

-- a message that names the slot of a live connection has its serial number
pub queued-live : (p : Places OpenConnection) (s : Slot) (c : OpenConnection) (m : MessageItem) → m.connection ≡ Some s → item_at p s ≡ Some c → queued p m ≡ queued_as (Some c.serial) m
queued-live p s c m names live =
    ap (λ (n : Option ℕ). queued_as n m) (ap (serial_at p) names ∙ ap (λ (o : Option OpenConnection). option_map (λ d. d.serial) o) live)

-- a message's connection, while it is there, is in the slot that the message names
pub slot-of-serial : (p : Places OpenConnection) (m : QueuedMessage) (n : ℕ) (c : OpenConnection) → IsKept 256 p → BelongsTo p m → m.serial ≡ Some n → find (λ d. d.serial == n) (connections p) ≡ Some c
    → (s : Slot) × (m.connection ≡ Some s) × (item_at p s ≡ Some c)
slot-of-serial p m n c kept b numbered f =
    let go : (o : Option (Held OpenConnection)) → find (λ h. h.item.serial == n) p.held ≡ o → option_map (λ (h : Held OpenConnection). h.item) o ≡ Some c
    → (s : Slot) × (m.connection ≡ Some s) × (item_at p s ≡ Some c) =
    elim [
      | None ↦ λ e g. cc
      | Some h ↦ λ e g.
          let here : find (has_slot h.slot) p.held ≡ Some h = found-too (λ x. x.item.serial == n) (has_slot h.slot) p.held h (has_own h.slot) (one_slot 256 p h.slot kept) e in
          let serial : h.item.serial ≡ n = eqb-true h.item.serial n (find-passes (λ x. x.item.serial == n) p.held h e) in
          (h.slot, find-all (Slotted m) (λ x. x.item.serial == n) p.held h e b.slot (numbered ∙ ap (λ (k : ℕ). Some k) (sym serial)), ap (option_map (λ (x : Held OpenConnection). x.item)) here ∙ g)
    ] in
    go (find (λ h. h.item.serial == n) p.held) refl (sym (find-map (λ (h : Held OpenConnection). h.item) (λ d. d.serial == n) p.held) ∙ f)
