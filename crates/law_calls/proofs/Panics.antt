-- A panic: some messages and connections go, and then messages are taken in, one after another.
use Rattle.std.proofs.Common.{ℕ, zero, suc, ◌≡◌, ◌≤◌, ◌+◌, ◌==◌, Bool, true, false, not, ◌&&◌, ◌||◌, List, [], ◌∷◌, ◌++◌, length, filter, get_or, add-one, arith, ◌∙◌, ap, sym, refl, subst, length-append}
use Rattle.std.specs.Prelude.{All, Option, Some, None, count_by, is_some, if◌then◌else◌}
use Rattle.std.specs.Option.{option_map_or}
use Rattle.std.specs.Ordering.{int_eq}
use Rattle.std.proofs.lemmas.List.{get_or-map, length-map}
use Rattle.std.proofs.lemmas.Bool.{and_from, not-false}
use Rattle.law_lists.proofs.Counts.{any-count, bit, both-le-left, both-le-right, count-cons, count-le}
use Rattle.ffm_model.specs.declared.system.System.{System}
use Rattle.ffm_model.specs.declared.constants.TheConstants.{PSA_IPC_DISCONNECT}
use Rattle.ffm_model.specs.declared.objects.OpenConnection.{OpenConnection}
use Rattle.ffm_model.specs.declared.objects.PendingMessage.{PendingMessage}
use Rattle.ffm_model.specs.declared.objects.ConnPhase.{ConnPhase}
use Rattle.ffm_model.specs.Actors.{is_service_of}
use Rattle.ffm_model.specs.State.{SpmState}
use Rattle.ffm_model.specs.Panic.{is_dead, panic_effect, disconnect_message}
use Rattle.ffm_model.specs.Names.{NamesSoFar, SlotName, is_same_connection, message_capacity, next_slot, stays, with_messages}
use Rattle.ffm_model.proofs.SerialLemmas.{serial-once}
use Rattle.object_pools.specs.declared.slot.Slot.{Slot}
use Rattle.object_pools.specs.declared.slot.Held.{Held}
use Rattle.object_pools.specs.Pool.{Places, free_slot, taken}
use Rattle.handle_table.specs.Handles.{live_names}
use Rattle.law_counting.specs.Objects.{Mark, connection_marked, is_awaited, message_marked}
use Rattle.law_counting.proofs.Parts.{is_itself}
use Rattle.law_counting.proofs.Losses.{after_panic-is, disconnect_as, all_disconnects}
use Rattle.law_counting.proofs.Panic.{count-append}
use Rattle.law_counting.proofs.Pairs.{count-split, member-counts, none-counts}
use Rattle.law_counting.proofs.Reply.{marked_as}
use Rattle.law_counting.proofs.Slots.{same-self}
use Rattle.law_counting.proofs.Takes.{same_message}
use Rattle.spm_tables.specs.declared.item.QueuedMessage.{QueuedMessage}
use Rattle.spm_tables.specs.TablesView.{TablesView, held_message, spm_of}
use Rattle.law_calls.specs.Named.{FollowsNames, NamesAre}
use Rattle.law_calls.specs.PoolChanges.{OneMessageEach, PairsOff, KeepsConnectionNames, KeepsMessageNames, TakesOn, names_of}
use Rattle.law_calls.proofs.KeptSlots.{kept-where, message_list}
use Rattle.law_calls.proofs.Moves.{messages-more, names-enqueued, names-stay, names-with, one_more, message-names-same}
use Rattle.law_calls.proofs.Changes.{after-is, kept_names, names-length}
use Rattle.law_calls.proofs.Partings.{like-kept}
use Rattle.law_calls.proofs.Removals.{one-message}

-- ---- the tables so far

-- all at once, before the first take
pub takes-first : (size : ℕ) (old new : TablesView) (q : Held QueuedMessage → Bool) → KeepsConnectionNames old.connections new.connections → new.messages ≡ record old.messages { held = filter q old.messages.held }
    → TakesOn size old (names_of q old.messages) 0 new
takes-first size old new q of_connections of_messages = λ k was.
    names-with old new k (names_of q old.messages) was of_connections (ap (λ (p : Places QueuedMessage). p.generations) of_messages) (ap (λ (p : Places QueuedMessage). p.takes) of_messages)
    (ap live_names (sym of_messages))

-- connections go or change in their slots, and messages change in theirs
pub takes-stay : (size : ℕ) (old d new : TablesView) (kept : List SlotName) (n : ℕ) → TakesOn size old kept n d → KeepsConnectionNames d.connections new.connections → KeepsMessageNames d.messages new.messages → TakesOn size old kept n new
takes-stay size old d new kept n so_far of_connections of_messages = λ k was. names-stay d new (with_messages size n (record k { messages = kept })) (so_far k was) of_connections of_messages

pub takes-connections : (size : ℕ) (old d new : TablesView) (kept : List SlotName) (n : ℕ) → TakesOn size old kept n d → KeepsConnectionNames d.connections new.connections → new.messages ≡ d.messages → TakesOn size old kept n new
takes-connections size old d new kept n so_far of_connections of_messages = takes-stay size old d new kept n so_far of_connections (message-names-same d.messages new.messages of_messages)

-- a message is taken in
pub takes-more : (size : ℕ) (old d new : TablesView) (kept : List SlotName) (n : ℕ) (slot : Slot) (x : QueuedMessage) → TakesOn size old kept n d → length d.messages.generations ≡ size → free_slot d.messages ≡ Some slot
    → KeepsConnectionNames d.connections new.connections → new.messages ≡ taken d.messages slot x → TakesOn size old kept (n + 1) new
takes-more size old d new kept n slot x so_far wide free of_connections of_messages = λ k was.
    let k' : NamesSoFar = record k { messages = kept } in
    let mid : TablesView = record d { connections = new.connections } in
    let between : NamesAre mid (with_messages size n k') = names-stay d mid (with_messages size n k') (so_far k was) of_connections (message-names-same d.messages d.messages refl) in
    subst (NamesAre new) (sym (messages-more size n k') ∙ ap (λ m. with_messages size m k') (sym (add-one n))) (names-enqueued mid new (with_messages size n k') slot x size between wide free refl of_messages)

-- ---- the event as a whole

more-messages : (size n : ℕ) (k : NamesSoFar) → length (with_messages size n k).messages ≡ length k.messages + n
more-messages size zero k = omega arith
more-messages size (suc n) k =
    let t : SlotName = next_slot size k.messages k.past_messages in
    omega (arith, more-messages size n (one_more size k), length-append k.messages (t ∷ []))

-- the messages that pass the test stay, the others go, and those that come are like none of them
follows-closed : (s : System) (old new : TablesView) (r : PendingMessage → Bool) (added : List PendingMessage) (kept : List SlotName) (n : ℕ) → TakesOn (message_capacity s) old kept n new
    → kept ≡ names_of (λ h. r (held_message h)) old.messages → new.connections.takes ≡ old.connections.takes → (spm_of new).messages ≡ filter r (spm_of old).messages ++ added
    → OneMessageEach (spm_of old) → All (λ m. r m ≡ false → stays added m ≡ false) (spm_of old).messages → FollowsNames s old new
follows-closed s old new r added kept n so_far names made messages one apart = λ k was.
    let hs : List (Held QueuedMessage) = old.messages.held in
    let ms : List PendingMessage = message_list hs in
    let now : NamesAre new (with_messages (message_capacity s) n (record k { messages = kept })) = so_far k was in
    let part : All (λ m. stays (filter r ms ++ added) m ≡ r m) ms = like-kept same_message same-self r ms added one apart in
    let stay : All (λ h. stays (message_list new.messages.held) (held_message h) ≡ r (held_message h)) hs =
    λ i d lt.
    let h : Held QueuedMessage = get_or hs i d in
    let at : get_or ms i (held_message d) ≡ held_message h = get_or-map held_message hs i d (held_message d) lt in
    ap (λ (ns : List PendingMessage). stays ns (held_message h)) messages
    ∙ subst (λ (m : PendingMessage). stays (filter r ms ++ added) m ≡ r m) at (part i (held_message d) (omega (arith, lt, length-map hs held_message))) in
    let is_kept : kept_names old new k.messages ≡ kept = ap (kept_names old new) was.messages ∙ kept-where (stays (message_list new.messages.held)) (λ h. r (held_message h)) hs stay ∙ sym names in
    let longer : length new.messages.held ≡ length kept + n = omega (arith, names-length new (with_messages (message_capacity s) n (record k { messages = kept })) now, more-messages (message_capacity s) n (record k { messages = kept })) in
    subst (NamesAre new) (sym (after-is s old new k kept n is_kept longer made)) now

-- ---- a panic in the machine's words

-- the number of a connection
abbrev is_number : Option ℕ → ℕ → Bool
is_number o n = option_map_or (λ k. n == k) o false

same-number : (m : PendingMessage) (c : OpenConnection) → bit (same_message m (disconnect_message c)) ≤ bit (is_number m.connection c.serial)
same-number m c =
    let go : (o : Option ℕ) (x : Bool) → bit (is_same_connection (Some c.serial) o && x) ≤ bit (is_number o c.serial) = elim [ None ↦ λ x. omega arith | Some k ↦ λ x. both-le-left (c.serial == k) x ] in
    go m.connection ((is_some m.connection || (c.client.0 == m.client.0)) && int_eq PSA_IPC_DISCONNECT m.kind)

disconnect-le : (m : PendingMessage) (c : OpenConnection) (o k : Bool) (ph : ConnPhase) → count_by (same_message m) (disconnect_as o k ph c) ≤ bit (not o && is_number m.connection c.serial)
disconnect-le m c true k ph = omega arith
disconnect-le m c false true ph =
    let go : (b : Bool) → count_by (same_message m) (if b then [] else disconnect_message c ∷ []) ≤ bit (is_number m.connection c.serial) =
    elim [ true ↦ omega arith | false ↦ omega (arith, count-cons (same_message m) (disconnect_message c) [], same-number m c) ] in
    go (is_dead ph)
disconnect-le m c false false ph = omega arith

disconnects-le : (s : System) (p : ℕ) (m : PendingMessage) (cs : List OpenConnection) → count_by (same_message m) (all_disconnects s p cs) ≤ count_by (λ c. not (is_service_of s p c.service) && is_number m.connection c.serial) cs
disconnects-le s p m [] = omega arith
disconnects-le s p m (c ∷ cs) =
    omega (
      arith,
      count-append (same_message m) (disconnect_as (is_service_of s p c.service) (c.client.0 == p) c.phase c) (all_disconnects s p cs),
      disconnect-le m c (is_service_of s p c.service) (c.client.0 == p) c.phase,
      disconnects-le s p m cs,
      count-cons (λ d. not (is_service_of s p d.service) && is_number m.connection d.serial) c cs,
    )

-- the disconnections that a panic sends are of other connections than the messages that it takes from its services
pub disconnects-apart : (s : System) (b : SpmState) (p : ℕ) → PairsOff b → All (λ m. not (is_service_of s p m.service) ≡ false → stays (all_disconnects s p b.connections) m ≡ false) b.messages
disconnects-apart s b p h = λ i d lt off.
    let m : PendingMessage = get_or b.messages i d in
    let flip : (x n : ℕ) → (x == n) ≡ (n == x) = λ x n. grind arith in
    let numbered : (n : ℕ) → m.connection ≡ Some n → count_by (λ c. not (is_service_of s p c.service) && (c.serial == n)) b.connections ≡ 0 =
    λ n conn.
    let t : Mark = λ k a v ph. is_service_of s p v && (k == n) in
    let here : message_marked t m ≡ true = marked_as m n t conn ∙ and_from (is_service_of s p m.service) (n == n) (not-false (is_service_of s p m.service) off) (is_itself n) in
    omega (
      arith,
      member-counts (message_marked t) b.messages i d lt,
      ap bit here,
      h.paired t,
      count-le (connection_marked t) (λ c. is_service_of s p c.service && (c.serial == n)) (λ c. both-le-right (is_awaited c.phase) (is_service_of s p c.service && (c.serial == n))) b.connections,
      count-split (λ c. is_service_of s p c.service) (λ c. c.serial == n) b.connections,
      serial-once 0 b.connections_made n b.connections h.rising,
    ) in
    let nobody : (o : Option ℕ) → m.connection ≡ o → count_by (λ c. not (is_service_of s p c.service) && is_number o c.serial) b.connections ≡ 0 =
    elim [
      | None ↦ λ e. none-counts (λ c. not (is_service_of s p c.service) && false) (λ c. and_false (not (is_service_of s p c.service))) b.connections
      | Some n ↦ λ e. numbered n e
    ] in
    let none : count_by (same_message m) (all_disconnects s p b.connections) ≡ 0 = omega (arith, disconnects-le s p m b.connections, nobody m.connection refl) in
    let go : (x : Bool) → stays (all_disconnects s p b.connections) m ≡ x → x ≡ false = elim [ true ↦ λ e. absurd (omega (arith, any-count (same_message m) (all_disconnects s p b.connections) e, none)) | false ↦ λ e. refl ] in
    go (stays (all_disconnects s p b.connections) m) refl where
      and_false : (x : Bool) → (x && false) ≡ false
      and_false true = refl
      and_false false = refl

pub follows-panicked : (s : System) (old new : TablesView) (p : ℕ) (kept : List SlotName) (n : ℕ) → PairsOff (spm_of old) → spm_of new ≡ panic_effect s (spm_of old) p
    → kept ≡ names_of (λ h. not (is_service_of s p h.item.service)) old.messages → TakesOn (message_capacity s) old kept n new → FollowsNames s old new
follows-panicked s old new p kept n pairs effect names so_far =
    let is_after = effect ∙ after_panic-is s (spm_of old) p in
    follows-closed s old new (λ m. not (is_service_of s p m.service)) (all_disconnects s p (spm_of old).connections) kept n so_far names
    (ap (λ (b : SpmState). b.connections_made) is_after) (ap (λ (b : SpmState). b.messages) is_after) (one-message (spm_of old) pairs) (disconnects-apart s (spm_of old) p pairs)
