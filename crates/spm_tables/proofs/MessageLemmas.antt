-- The messages of a pool, as the machine's state has them.
use Rattle.std.proofs.Common.{ℕ, ◌≡◌, ◌≤◌, ◌<◌, ◌+◌, ◌*◌, ◌==◌, nat_lt, length, Bool, true, false, cond, ◌&&◌, List, [], ◌∷◌, arith, ◌∙◌, ap, sym, refl, subst, eq-eqb, get_or}
use Rattle.std.specs.Prelude.{pos, count_by, find, Option, Some, None, map, All, IfSome, option_and_then, slice_get}
use Rattle.std.specs.Option.{option_map, option_map_or}
use Rattle.std.proofs.lemmas.Bool.Decides.{nat_tests}
use Rattle.std.proofs.lemmas.List.Elements.{All-nil, All-cons, All-weaker, All-map}
use Rattle.std.proofs.lemmas.Option.{slice_get-map}
use Rattle.std.proofs.lemmas.Bool.{and_parts, eqb-true}
use Rattle.ffm_model.specs.declared.machine.Handle.{Handle}
use Rattle.ffm_model.specs.declared.system.System.{System}
use Rattle.ffm_model.specs.declared.system.Service.{Service}
use Rattle.ffm_model.specs.declared.objects.Vectors.{Vectors}
use Rattle.ffm_model.specs.declared.objects.PendingMessage.{PendingMessage}
use Rattle.ffm_model.specs.Actors.{is_service_of}
use Rattle.ffm_model.specs.State.{has_handle, handle_eq, is_undelivered, delivered, with_vectors, without_message, message_held}
use Rattle.object_pools.specs.declared.slot.Slot.{Slot}
use Rattle.object_pools.specs.declared.slot.Held.{Held}
use Rattle.object_pools.specs.Pool.{Places, IsKept, IsNamed, is_at, has_slot, item_at, item_put, with_item, without}
use Rattle.object_pools.proofs.Stores.{has_own}
use Rattle.law_lists.proofs.Counts.{bit, count-cons, count-found, map-none, count-le-at}
use Rattle.law_lists.proofs.Tests.{find-passes, find-same, find-map}
use Rattle.handle_table.specs.declared.handles.Family.TheVariants.{Message}
use Rattle.handle_table.specs.Handles.{handle_at, IsNameable}
use Rattle.handle_table.proofs.SlotLemmas.{one_slot, slot-is, held-of, nameable, nameable-at}
use Rattle.handle_table.proofs.Twins.{twin-put, twin-out, twin-find, find-all_fail}
use Rattle.spm_tables.proofs.PoolLemmas.{item-put}
use Rattle.spm_tables.specs.declared.item.QueuedMessage.{QueuedMessage}
use Rattle.spm_tables.specs.declared.signals.OwnedSignal.{OwnedSignal}
use Rattle.spm_tables.specs.Queues.{QueuesView}
use Rattle.spm_tables.specs.TablesView.{TablesView, Shape, MadeFor, spm_of, message_of, message_at, held_message, shown_handle, waits_for, is_signal_of, service_signal}
use Rattle.handle_table.proofs.TableLemmas.{handle-is}
use Rattle.ffm_model.proofs.StepLemmas.{int_eq-self}

-- ---- lists

-- what the first test finds, the second finds where it passes that item alone
pub found-too : {X : Type 0} (q p : X → Bool) (xs : List X) (h : X) → p h ≡ true → count_by p xs ≤ 1 → find q xs ≡ Some h → find p xs ≡ Some h
found-too q p [] h passes one f = cc
found-too q p (x ∷ xs) h passes one f =
    let few : bit (p x) + count_by p xs ≤ 1 = omega (arith, count-cons p x xs) in
    let rest : (b : Bool) → bit b + count_by p xs ≤ 1 → find q xs ≡ Some h → cond b (Some x) (find p xs) ≡ Some h =
    elim [
      | true ↦ λ k g. absurd (omega (arith, count-found q p xs h g, ap bit passes))
      | false ↦ λ k g. found-too q p xs h passes (omega arith) g
    ] in
    let go : (b : Bool) → cond b (Some x) (find q xs) ≡ Some h → find p (x ∷ xs) ≡ Some h =
    elim [
      | true ↦ λ g. let it : x ≡ h = cc in ap (λ b. cond b (Some x) (find p xs)) (ap p it ∙ passes) ∙ g
      | false ↦ λ g. rest (p x) few g
    ] in
    go (q x) f

count-narrow : {X : Type 0} (q p : X → Bool) (xs : List X) → All (λ x. q x ≡ true → p x ≡ true) xs → count_by q xs ≤ count_by p xs
count-narrow q p xs narrow = count-le-at q p xs (λ i d lt. at (q (get_or xs i d)) (p (get_or xs i d)) (narrow i d lt)) where
  at : (a b : Bool) → (a ≡ true → b ≡ true) → bit a ≤ bit b
  at true b h = omega (arith, ap bit (h refl))
  at false b h = omega arith

-- ---- handles and slots

equal-slots : (s t : Slot) → IsNameable Message s → IsNameable Message t → handle_at Message s ≡ handle_at Message t → s ≡ t
equal-slots s t m n e =
    let numbers : pos (s.generation * 1024 + s.index + 512) ≡ pos (t.generation * 1024 + t.index + 512) = ap (λ (h : Handle). h.0) e in
    let same : s.generation * 1024 + s.index + 512 ≡ t.generation * 1024 + t.index + 512 = cc in
    let index : s.index ≡ t.index = omega (arith, m.index, n.index) in
    let generation : s.generation ≡ t.generation = omega (arith, m.index, n.index) in
    λ j. record { index = index j; generation = generation j }

-- what shows a handle was delivered, and its slot gives that handle
shown-is : (h : Held QueuedMessage) (k : Handle) → has_handle (shown_handle h.item.delivered h.slot) k ≡ true → handle_at Message h.slot ≡ k
shown-is h k e =
    let go : (b : Bool) → has_handle (shown_handle b h.slot) k ≡ true → handle_at Message h.slot ≡ k =
    elim [ true ↦ λ f. let it : Some (handle_at Message h.slot) ≡ Some k = handle-is (Some (handle_at Message h.slot)) k f in cc | false ↦ λ f. cc ] in
    go h.item.delivered e

has_same : (s : Slot) (h : Held QueuedMessage) → h.slot ≡ s → has_slot s h ≡ true
has_same s h e = ap (λ (t : Slot). (t.index == s.index) && (t.generation == s.generation)) e ∙ has_own s

abbrev pub shows : Handle → PendingMessage → Bool
shows k m = has_handle m.handle k

narrow-slot : (p : Places QueuedMessage) (s : Slot) → IsKept 304 p → IsNameable Message s → All (λ h. shows (handle_at Message s) (held_message h) ≡ true → has_slot s h ≡ true) p.held
narrow-slot p s kept named =
    All-weaker (λ h. IsNameable Message h.slot) (λ h. shows (handle_at Message s) (held_message h) ≡ true → has_slot s h ≡ true)
    (λ h n e. has_same s h (equal-slots h.slot s n named (shown-is h (handle_at Message s) e))) p.held (nameable Message p kept)

shown-once : (p : Places QueuedMessage) (s : Slot) → IsKept 304 p → IsNameable Message s → count_by (λ h. shows (handle_at Message s) (held_message h)) p.held ≤ 1
shown-once p s kept named =
    omega (arith, one_slot 304 p s kept, count-narrow (λ h. shows (handle_at Message s) (held_message h)) (has_slot s) p.held (narrow-slot p s kept named))

shows-own : (h : Held QueuedMessage) (m : QueuedMessage) (s : Slot) → h.item ≡ m → h.slot ≡ s → m.delivered ≡ true → shows (handle_at Message s) (held_message h) ≡ true
shows-own h m s item slot on =
    ap (λ (i : QueuedMessage). has_handle (shown_handle i.delivered h.slot) (handle_at Message s)) item
    ∙ ap (λ (b : Bool). has_handle (shown_handle b h.slot) (handle_at Message s)) on
    ∙ ap (λ (t : Slot). handle_eq (handle_at Message t) (handle_at Message s)) slot
    ∙ int_eq-self (handle_at Message s).0

-- ---- changes of a delivered message

pub vectors-state : (d : TablesView) (s : Slot) (m : QueuedMessage) (v : Vectors) → IsKept 304 d.messages → item_at d.messages s ≡ Some m → m.delivered ≡ true
    → spm_of (record d { messages = with_item d.messages s (record m { vectors = v }) }) ≡ with_vectors (spm_of d) (handle_at Message s) v
vectors-state d s m v kept live on =
    let it = held-of d.messages s m live in
    let named : IsNameable Message s = nameable-at Message d.messages s m kept live in
    let same : held_message (record it.0 { item = record m { vectors = v } }) ≡ record (held_message it.0) { vectors = v } =
    ap (λ (i : QueuedMessage). message_of (it.0).slot (record i { vectors = v })) (sym it.2) in
    let messages : map held_message (with_item d.messages s (record m { vectors = v })).held ≡ (with_vectors (spm_of d) (handle_at Message s) v).messages =
    twin-put held_message (has_slot s) (shows (handle_at Message s)) (λ h. record h { item = record m { vectors = v } }) (λ n. record n { vectors = v }) it.0 same
    (shows-own it.0 m s it.2 it.3 on) d.messages.held it.1 (one_slot 304 d.messages s kept) (shown-once d.messages s kept named) in
    ap (λ (ms : List PendingMessage). record (spm_of d) { messages = ms }) messages

-- the same of the queues, where the slot has a message
pub vectors-states : (d : TablesView) (n : ℕ) (r : QueuesView) (s : Slot) (v : Vectors) → IsKept 304 d.messages
    → IfSome (item_at d.messages s) (λ m. r ≡ record { messages = with_item d.messages s (record m { vectors = v }); services = n })
    → IfSome (item_at d.messages s) (λ m. m.delivered ≡ true → spm_of (record d { messages = r.messages }) ≡ with_vectors (spm_of d) (handle_at Message s) v)
vectors-states d n r s v kept = go (item_at d.messages s) refl where
  go : (o : Option QueuedMessage) → item_at d.messages s ≡ o → IfSome o (λ m. r ≡ record { messages = with_item d.messages s (record m { vectors = v }); services = n })
      → IfSome o (λ m. m.delivered ≡ true → spm_of (record d { messages = r.messages }) ≡ with_vectors (spm_of d) (handle_at Message s) v)
  go None live after = tt
  go (Some m) live after = λ on. ap (λ (q : QueuesView). spm_of (record d { messages = q.messages })) after ∙ vectors-state d s m v kept live on

pub dropped-state : (d : TablesView) (s : Slot) (m : QueuedMessage) → IsKept 304 d.messages → item_at d.messages s ≡ Some m → m.delivered ≡ true
    → spm_of (record d { messages = without d.messages s }) ≡ without_message (spm_of d) (handle_at Message s)
dropped-state d s m kept live on =
    let it = held-of d.messages s m live in
    let named : IsNameable Message s = nameable-at Message d.messages s m kept live in
    let messages : map held_message (without d.messages s).held ≡ (without_message (spm_of d) (handle_at Message s)).messages =
    twin-out held_message (has_slot s) (shows (handle_at Message s)) it.0 (shows-own it.0 m s it.2 it.3 on) d.messages.held it.1 (one_slot 304 d.messages s kept) (shown-once d.messages s kept named) in
    ap (λ (ms : List PendingMessage). record (spm_of d) { messages = ms }) messages

-- ---- the oldest undelivered message

-- the message at a slot is the service's oldest
pub record IsOldest (p : Places QueuedMessage) (v : ℕ) (s : Slot) : Type 0 where
  pub held : Held QueuedMessage
  pub first : find (waits_for v) p.held ≡ Some held
  pub here : find (has_slot s) p.held ≡ Some held
  pub slot : held.slot ≡ s

pub oldest-of : (p : Places QueuedMessage) (v : ℕ) (s : Slot) → IsKept 304 p → Some s ≡ option_map (λ (h : Held QueuedMessage). h.slot) (find (waits_for v) p.held) → IsOldest p v s
oldest-of p v s kept =
    let go : (o : Option (Held QueuedMessage)) → find (waits_for v) p.held ≡ o → Some s ≡ option_map (λ (h : Held QueuedMessage). h.slot) o → IsOldest p v s =
    elim [
      | None ↦ λ f e. cc
      | Some h ↦ λ f e.
          let same : h.slot ≡ s = cc in
          record { held = h; first = f; here = found-too (waits_for v) (has_slot s) p.held h (has_same s h same) (one_slot 304 p s kept) f; slot = same }
    ] in
    go (find (waits_for v) p.held) refl

pub none-oldest : (p : Places QueuedMessage) (v : ℕ) → None ≡ option_map (λ (h : Held QueuedMessage). h.slot) (find (waits_for v) p.held) → None ≡ find (is_undelivered v) (map held_message p.held)
none-oldest p v =
    let go : (o : Option (Held QueuedMessage)) → find (waits_for v) p.held ≡ o → None ≡ option_map (λ (h : Held QueuedMessage). h.slot) o → None ≡ find (is_undelivered v) (map held_message p.held) =
    elim [ None ↦ λ f e. sym (find-map held_message (is_undelivered v) p.held ∙ ap (option_map held_message) f) | Some h ↦ λ f e. cc ] in
    go (find (waits_for v) p.held) refl

-- a live slot stays live where its item is written
pub live-put : (p : Places QueuedMessage) (s : Slot) (m n : QueuedMessage) → item_at p s ≡ Some m → item_at (with_item p s n) s ≡ Some n
live-put p s m n live = item-put p s m n live

pub oldest-item : (p : Places QueuedMessage) (v : ℕ) (s : Slot) (o : IsOldest p v s) → item_at p s ≡ Some (o.held).item
oldest-item p v s o = ap (option_map (λ (h : Held QueuedMessage). h.item)) o.here

pub oldest-is : (p : Places QueuedMessage) (v : ℕ) (s : Slot) (m : QueuedMessage) (o : IsOldest p v s) → item_at p s ≡ Some m → (o.held).item ≡ m
oldest-is p v s m o live = same (o.held).item m (sym (oldest-item p v s o) ∙ live) where
  same : (a b : QueuedMessage) → Some a ≡ Some b → a ≡ b
  same a b e = cc

pub oldest-message : (d : TablesView) (v : ℕ) (s : Slot) → IsOldest d.messages v s → message_at d s ≡ find (is_undelivered v) (spm_of d).messages
oldest-message d v s o =
    ap (option_map (message_of s)) (oldest-item d.messages v s o)
    ∙ ap (λ (t : Slot). Some (message_of t (o.held).item)) (sym o.slot)
    ∙ ap (option_map held_message) (sym o.first)
    ∙ sym (find-map held_message (is_undelivered v) d.messages.held)

-- what the queues are after its delivery
pub delivered-after : (q r : QueuesView) (v : ℕ) (s : Slot) (o : IsOldest q.messages v s) → IfSome (item_at q.messages s) (λ m. r ≡ record q { messages = with_item q.messages s (record m { delivered = true }) })
    → r ≡ record q { messages = with_item q.messages s (record (o.held).item { delivered = true }) }
delivered-after q r v s o after = subst (λ (x : Option QueuedMessage). IfSome x (λ m. r ≡ record q { messages = with_item q.messages s (record m { delivered = true }) })) (oldest-item q.messages v s o) after

delivered-put : (v : ℕ) (s : Slot) (m : QueuedMessage) (held : List (Held QueuedMessage)) (h : Held QueuedMessage) → h.slot ≡ s → h.item ≡ m → find (waits_for v) held ≡ Some h → count_by (has_slot s) held ≤ 1
    → map held_message (map (item_put s (record m { delivered = true })) held) ≡ delivered v (handle_at Message s) (map held_message held)
delivered-put v s m [] h slot item f one = refl
delivered-put v s m (x ∷ xs) h slot item f one =
    let few : bit (has_slot s x) + count_by (has_slot s) xs ≤ 1 = omega (arith, count-cons (has_slot s) x xs) in
    let later : (b : Bool) → has_slot s x ≡ b → bit b + count_by (has_slot s) xs ≤ 1 → find (waits_for v) xs ≡ Some h
    → held_message (cond b (record x { item = record m { delivered = true } }) x) ∷ map held_message (map (item_put s (record m { delivered = true })) xs) ≡ held_message x ∷ delivered v (handle_at Message s) (map held_message xs) =
    elim [
      | true ↦ λ e n g. absurd (omega (arith, count-found (waits_for v) (has_slot s) xs h g, ap bit (has_same s h slot)))
      | false ↦ λ e n g. ap (λ (ns : List PendingMessage). held_message x ∷ ns) (delivered-put v s m xs h slot item g (omega arith))
    ] in
    let first : x ≡ h → held_message (item_put s (record m { delivered = true }) x) ∷ map held_message (map (item_put s (record m { delivered = true })) xs)
    ≡ record (held_message x) { handle = Some (handle_at Message s) } ∷ map held_message xs =
    λ it.
    let here : has_slot s x ≡ true = ap (has_slot s) it ∙ has_same s h slot in
    let none : count_by (has_slot s) xs ≡ 0 = omega (arith, ap bit here) in
    let was : x.item ≡ m = ap (λ (y : Held QueuedMessage). y.item) it ∙ item in
    let at : x.slot ≡ s = ap (λ (y : Held QueuedMessage). y.slot) it ∙ slot in
    ap (λ (b : Bool). held_message (cond b (record x { item = record m { delivered = true } }) x) ∷ map held_message (map (item_put s (record m { delivered = true })) xs)) here
    ∙ ap (λ (ys : List (Held QueuedMessage)). message_of x.slot (record m { delivered = true }) ∷ map held_message ys) (map-none (has_slot s) (λ y. record y { item = record m { delivered = true } }) xs none)
    ∙ ap (λ (i : QueuedMessage). message_of x.slot (record i { delivered = true }) ∷ map held_message xs) (sym was)
    ∙ ap (λ (t : Slot). record (held_message x) { handle = Some (handle_at Message t) } ∷ map held_message xs) at in
    let go : (b : Bool) → waits_for v x ≡ b → cond b (Some x) (find (waits_for v) xs) ≡ Some h
    → held_message (item_put s (record m { delivered = true }) x) ∷ map held_message (map (item_put s (record m { delivered = true })) xs)
    ≡ cond b (record (held_message x) { handle = Some (handle_at Message s) } ∷ map held_message xs) (held_message x ∷ delivered v (handle_at Message s) (map held_message xs)) =
    elim [
      | true ↦ λ e g. first cc
      | false ↦ λ e g. later (has_slot s x) refl few g
    ] in
    go (waits_for v x) refl f

pub delivered-state : (d : TablesView) (v : ℕ) (s : Slot) (m : QueuedMessage) → IsKept 304 d.messages → IsOldest d.messages v s → item_at d.messages s ≡ Some m
    → spm_of (record d { messages = with_item d.messages s (record m { delivered = true }) }) ≡ record (spm_of d) { messages = delivered v (handle_at Message s) (spm_of d).messages }
delivered-state d v s m kept o live =
    ap (λ (ms : List PendingMessage). record (spm_of d) { messages = ms })
    (delivered-put v s m d.messages.held o.held o.slot (oldest-is d.messages v s m o live) o.first (one_slot 304 d.messages s kept))

-- ---- a message is found by its handle

-- only this slot gives the handle
abbrev pub Names : Option Slot → Handle → Type 0
Names o k = (t : Slot) → IsNameable Message t → handle_at Message t ≡ k → o ≡ Some t

abbrev pub held_by : (ℕ → Bool) → Handle → PendingMessage → Bool
held_by q k m = q m.service && has_handle m.handle k

pub none-by : (p : Places QueuedMessage) (q : ℕ → Bool) (k : Handle) → IsKept 304 p → Names None k → find (held_by q k) (map held_message p.held) ≡ None
none-by p q k kept names =
    find-all_fail (held_by q k) (map held_message p.held)
    (All-map (λ m. held_by q k m ≡ true → ⊥) held_message p.held
    (All-weaker (λ h. IsNameable Message h.slot) (λ h. held_by q k (held_message h) ≡ true → ⊥)
    (λ h n e. no_slot h.slot (names h.slot n (shown-is h k (and_parts (q h.item.service) (has_handle (shown_handle h.item.delivered h.slot) k) e).1))) p.held (nameable Message p kept))) where
      no_slot : (s : Slot) → None ≡ Some s → ⊥
      no_slot s e = cc

pub found-by : (p : Places QueuedMessage) (q : ℕ → Bool) (k : Handle) (s : Slot) → IsKept 304 p → Names (Some s) k → handle_at Message s ≡ k
    → find (held_by q k) (map held_message p.held) ≡ option_and_then (λ m. cond (q m.service && m.delivered) (Some (message_of s m)) None) (item_at p s)
found-by p q k s kept names gives =
    twin-find held_message (has_slot s) (held_by q k) p.held
    (All-weaker (λ h. IsNameable Message h.slot) (λ h. held_by q k (held_message h) ≡ true → has_slot s h ≡ true)
    (λ h n e. has_same s h (same_slot h.slot (names h.slot n (shown-is h k (and_parts (q h.item.service) (has_handle (shown_handle h.item.delivered h.slot) k) e).1)))) p.held (nameable Message p kept))
    (one_slot 304 p s kept)
    ∙ seen (find (has_slot s) p.held) refl where
      same_slot : (t : Slot) → Some s ≡ Some t → t ≡ s
      same_slot t e = cc

      shown : (b : Bool) → has_handle (shown_handle b s) k ≡ b
      shown true = ap (λ (h : Handle). handle_eq (handle_at Message s) h) (sym gives) ∙ int_eq-self (handle_at Message s).0
      shown false = refl

      seen : (o : Option (Held QueuedMessage)) → find (has_slot s) p.held ≡ o
          → option_and_then (λ h. cond (held_by q k (held_message h)) (Some (held_message h)) None) o ≡ option_and_then (λ m. cond (q m.service && m.delivered) (Some (message_of s m)) None) (option_map (λ (h : Held QueuedMessage). h.item) o)
      seen None f = refl
      seen (Some h) f =
          let same : h.slot ≡ s = slot-is s h (find-passes (has_slot s) p.held h f) in
          ap (λ (t : Slot). cond (q h.item.service && has_handle (shown_handle h.item.delivered t) k) (Some (message_of t h.item)) None) same
          ∙ ap (λ (b : Bool). cond (q h.item.service && b) (Some (message_of s h.item)) None) (shown h.item.delivered)

owned-is : (s : System) (d : TablesView) (p v : ℕ) → MadeFor d s → is_signal_of d.services p v ≡ is_service_of s p v
owned-is s d p v made =
    ap (λ (xs : List OwnedSignal). is_signal_of xs p v) (ap (λ (h : Shape). h.services) made)
    ∙ ap (λ (o : Option OwnedSignal). option_map_or (λ x. x.owner == p) o false) (slice_get-map service_signal s.services v)
    ∙ seen (slice_get s.services v) where
      seen : (o : Option Service) → option_map_or (λ x. x.owner == p) (option_map service_signal o) false ≡ option_map_or (λ x. x.owner == p) o false
      seen None = refl
      seen (Some x) = refl

pub held-is : (s : System) (d : TablesView) (p : ℕ) (k : Handle) → MadeFor d s → find (held_by (is_signal_of d.services p) k) (map held_message d.messages.held) ≡ message_held s (spm_of d) p k
held-is s d p k made =
    find-same (held_by (is_signal_of d.services p) k) (held_by (is_service_of s p) k) (λ m. ap (λ (b : Bool). b && has_handle m.handle k) (owned-is s d p m.service made)) (map held_message d.messages.held)

pub find-none : (d : TablesView) (s : System) (p : ℕ) (k : Handle) → IsKept 304 d.messages → Names None k → MadeFor d s → None ≡ message_held s (spm_of d) p k
find-none d s p k kept names made = sym (none-by d.messages (is_signal_of d.services p) k kept names) ∙ held-is s d p k made

pub find-gone : (d : TablesView) (s : System) (p : ℕ) (k : Handle) (t : Slot) → IsKept 304 d.messages → Names (Some t) k → handle_at Message t ≡ k → MadeFor d s → None ≡ item_at d.messages t
    → None ≡ message_held s (spm_of d) p k
find-gone d s p k t kept names gives made gone =
    ap (option_and_then (λ m. cond (is_signal_of d.services p m.service && m.delivered) (Some (message_of t m)) None)) gone
    ∙ sym (found-by d.messages (is_signal_of d.services p) k t kept names gives) ∙ held-is s d p k made

pub find-shown : (d : TablesView) (s : System) (p : ℕ) (k : Handle) (t : Slot) (m : QueuedMessage) (b : Bool) → IsKept 304 d.messages → Names (Some t) k → handle_at Message t ≡ k → MadeFor d s → Some m ≡ item_at d.messages t
    → b ≡ (is_signal_of d.services p m.service && m.delivered) → cond b (Some (message_of t m)) None ≡ message_held s (spm_of d) p k
find-shown d s p k t m b kept names gives made live test =
    ap (λ (x : Bool). cond x (Some (message_of t m)) None) test
    ∙ ap (option_and_then (λ n. cond (is_signal_of d.services p n.service && n.delivered) (Some (message_of t n)) None)) live
    ∙ sym (found-by d.messages (is_signal_of d.services p) k t kept names gives) ∙ held-is s d p k made

-- ---- the messages by their indices

pub all-found : (xs : List (Held QueuedMessage)) → ((i : ℕ) → count_by (is_at i) xs ≤ 1) → All (λ h. find (is_at h.slot.index) xs ≡ Some h) xs
all-found [] one = All-nil (λ (h : Held QueuedMessage). find (is_at h.slot.index) [] ≡ Some h)
all-found (x ∷ xs) one =
    let fewer : (i : ℕ) → bit (is_at i x) + count_by (is_at i) xs ≤ 1 = λ i. omega (arith, count-cons (is_at i) x xs, one i) in
    let rest : All (λ h. find (is_at h.slot.index) xs ≡ Some h) xs = all-found xs (λ i. omega (arith, fewer i)) in
    All-cons (λ h. find (is_at h.slot.index) (x ∷ xs) ≡ Some h) x xs
    (ap (λ (b : Bool). cond b (Some x) (find (is_at x.slot.index) xs)) (eq-eqb x.slot.index x.slot.index refl))
    (All-weaker (λ h. find (is_at h.slot.index) xs ≡ Some h) (λ h. find (is_at h.slot.index) (x ∷ xs) ≡ Some h)
    (λ h f. behind h f (is_at h.slot.index x) (fewer h.slot.index)) xs rest) where
      behind : (h : Held QueuedMessage) → find (is_at h.slot.index) xs ≡ Some h → (b : Bool) → bit b + count_by (is_at h.slot.index) xs ≤ 1 → cond b (Some x) (find (is_at h.slot.index) xs) ≡ Some h
      behind h f true k = absurd (omega (arith, count-found (is_at h.slot.index) (is_at h.slot.index) xs h f, ap bit (eq-eqb h.slot.index h.slot.index refl)))
      behind h f false k = f

all-both : (P Q R : Held QueuedMessage → Type 0) (xs : List (Held QueuedMessage)) → ((h : Held QueuedMessage) → P h → Q h → R h) → All P xs → All Q xs → All R xs
all-both P Q R xs each ps qs = λ k d lt. each _ (ps k d lt) (qs k d lt)

-- no message of the service has an index below
abbrev pub NoneBelow : Places QueuedMessage → ℕ → ℕ → Type 0
NoneBelow p service n = (i : ℕ) (h : Held QueuedMessage) → i < n → find (is_at i) p.held ≡ Some h → h.item.service ≡ service → ⊥

pub least-all : (p : Places QueuedMessage) (service n : ℕ) → IsKept 304 p → NoneBelow p service n → All (λ h. h.item.service ≡ service → n ≤ h.slot.index) p.held
least-all p service n kept none =
    All-weaker (λ h. find (is_at h.slot.index) p.held ≡ Some h) (λ h. h.item.service ≡ service → n ≤ h.slot.index)
    (λ h f same. above h f same (nat_lt h.slot.index n) refl) p.held (all-found p.held kept.once) where
      above : (h : Held QueuedMessage) → find (is_at h.slot.index) p.held ≡ Some h → h.item.service ≡ service → (b : Bool) → nat_lt h.slot.index n ≡ b → n ≤ h.slot.index
      above h f same true e = absurd (none h.slot.index h (grind (arith, nat_tests)) f same)
      above h f same false e = grind (arith, nat_tests)

pub none-all : (p : Places QueuedMessage) (service n : ℕ) → IsKept 304 p → length p.generations ≤ n → NoneBelow p service n → All (λ h. h.item.service ≡ service → ⊥) p.held
none-all p service n kept past none =
    all-both (λ h. h.item.service ≡ service → n ≤ h.slot.index) (λ h. IsNamed p.generations h.slot) (λ h. h.item.service ≡ service → ⊥) p.held
    (λ h above named same. absurd (omega (arith, above same, named.below))) (least-all p service n kept none) kept.named

pub none-seen : (service : ℕ) (held : List (Held QueuedMessage)) → All (λ h. h.item.service ≡ service → ⊥) held → All (λ m. m.service ≡ service → ⊥) (map held_message held)
none-seen service held none = All-map (λ m. m.service ≡ service → ⊥) held_message held none

pub found-live : (p : Places QueuedMessage) (i : ℕ) (h : Held QueuedMessage) → IsKept 304 p → find (is_at i) p.held ≡ Some h → item_at p h.slot ≡ Some h.item
found-live p i h kept f =
    ap (option_map (λ (x : Held QueuedMessage). x.item)) (found-too (is_at i) (has_slot h.slot) p.held h (has_own h.slot) (one_slot 304 p h.slot kept) f)

pub found-index : (p : Places QueuedMessage) (i : ℕ) (h : Held QueuedMessage) → find (is_at i) p.held ≡ Some h → h.slot.index ≡ i
found-index p i h f = eqb-true h.slot.index i (find-passes (is_at i) p.held h f)
