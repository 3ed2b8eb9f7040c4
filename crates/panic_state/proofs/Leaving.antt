-- The tables while a partition that panicked leaves the services of others: its connections before a place are done.
use Rattle.std.proofs.Common.{ℕ, ◌≡◌, ◌<◌, ◌≤◌, ◌+◌, ◌==◌, Bool, true, false, not, ◌&&◌, List, [], ◌∷◌, ◌++◌, length, length-append, append_assoc, map, drop, arith, ◌∙◌, ap, sym, refl, subst, append-nil}
use Rattle.std.specs.Prelude.{Option, Some, None, if◌then◌else◌, slice_get, All, IfSome}
use Rattle.std.specs.List.{filter_map, cons_option}
use Rattle.std.proofs.Math.ListN.{length-set}
use Rattle.std.proofs.lemmas.List.{length-map}
use Rattle.std.proofs.lemmas.List.Elements.{All-head, All-tail}
use Rattle.ffm_model.specs.declared.objects.OpenConnection.{OpenConnection}
use Rattle.ffm_model.specs.declared.objects.ConnPhase.TheVariants.{Closing}
use Rattle.ffm_model.specs.declared.objects.PendingMessage.{PendingMessage}
use Rattle.ffm_model.specs.Names.{SlotName}
use Rattle.ffm_model.specs.Panic.{is_dead, disconnection, disconnect_message}
use Rattle.object_pools.specs.declared.slot.Slot.{Slot}
use Rattle.object_pools.specs.declared.slot.Held.{Held}
use Rattle.object_pools.specs.Pool.{most_takes, Places, IsKept, free_slot, item_at, item_put, with_item, without, taken}
use Rattle.spm_tables.specs.declared.item.QueuedMessage.{QueuedMessage}
use Rattle.spm_tables.specs.TablesView.{TablesView, held_message}
use Rattle.law_calls.specs.PoolChanges.{TakesOn}
use Rattle.law_calls.specs.Named.{KeepsGiven}
use Rattle.law_calls.proofs.Given.{given-freed, given-on, given-put, given-same, given-taken}
use Rattle.law_calls.proofs.Moves.{connection-names-item, connection-names-without}
use Rattle.law_calls.proofs.Panics.{takes-more, takes-connections}
use Rattle.panic_state.specs.Losses.{in_slot, left_by, held_without_client, disconnect_messages}
use Rattle.panic_state.proofs.Lists.{left_from, left_from-same, left_from-set, left_from-out, left_from-all, length-out, drop-nth, drop-set, drop-out, drop-all}
use Rattle.panic_state.proofs.PlaceLemmas.{with_item-at, without-at}
use Rattle.panic_state.proofs.Walks.{items}

abbrev pub messages_of : TablesView → List PendingMessage
messages_of d = map held_message d.messages.held

-- the disconnections of the connections from a place on
abbrev pub disconnect_messages_from : ℕ → ℕ → TablesView → List PendingMessage
disconnect_messages_from p n d = filter_map (disconnection p) (items (drop n d.connections.held))

abbrev IsServed : TablesView → Held OpenConnection → Type 0
IsServed old h = h.item.service < length old.services

-- the names go on to n more messages
abbrev pub NamesGoOn : TablesView → ℕ → TablesView → Type 0
NamesGoOn old n d = (first : TablesView) (kept : List SlotName) → TakesOn (length old.messages.generations) first kept 0 old → TakesOn (length old.messages.generations) first kept n d

pub record Leaves (p : ℕ) (old : TablesView) (n : ℕ) (d : TablesView) : Type 0 where
  pub connections : record d.connections { held = left_from (held_without_client p) n d.connections.held } ≡ left_by (held_without_client p) old.connections
  pub messages : messages_of d ++ disconnect_messages_from p n d ≡ messages_of old ++ disconnect_messages p old.connections
  pub rest : d ≡ record old { connections = d.connections; messages = d.messages }
  pub size : length d.messages.generations ≡ length old.messages.generations
  -- how many disconnections were sent
  pub sent : ℕ
  pub counted : sent + length (disconnect_messages_from p n d) ≡ length (disconnect_messages p old.connections)
  pub takes : d.messages.takes ≡ old.messages.takes + sent
  pub names : NamesGoOn old sent d
  pub given : KeepsGiven old d
  pub services : All (IsServed old) (drop n d.connections.held)

disconnects-all : (p n : ℕ) (d : TablesView) → length d.connections.held ≤ n → disconnect_messages_from p n d ≡ []
disconnects-all p n d past = ap (λ (hs : List (Held OpenConnection)). filter_map (disconnection p) (items hs)) (drop-all d.connections.held n past)

-- at the end
pub left-connections : (p n : ℕ) (old d : TablesView) → Leaves p old n d → length d.connections.held ≤ n → d.connections ≡ left_by (held_without_client p) old.connections
left-connections p n old d l past = sym (λ j. record d.connections { held = left_from-all (held_without_client p) d.connections.held n past j }) ∙ l.connections

pub left-messages : (p n : ℕ) (old d : TablesView) → Leaves p old n d → length d.connections.held ≤ n → messages_of d ≡ messages_of old ++ disconnect_messages p old.connections
left-messages p n old d l past = sym (append-nil (messages_of d)) ∙ ap (λ (ms : List PendingMessage). messages_of d ++ ms) (sym (disconnects-all p n d past)) ∙ l.messages

pub left-takes : (p n : ℕ) (old d : TablesView) → Leaves p old n d → length d.connections.held ≤ n → d.messages.takes ≡ old.messages.takes + length (disconnect_messages p old.connections)
left-takes p n old d l past = omega (arith, l.takes, l.counted, ap (λ (ms : List PendingMessage). length ms) (disconnects-all p n d past))

pub left-names : (p n : ℕ) (old d : TablesView) → Leaves p old n d → length d.connections.held ≤ n → NamesGoOn old (length (disconnect_messages p old.connections)) d
left-names p n old d l past =
    let all : l.sent ≡ length (disconnect_messages p old.connections) = omega (arith, l.counted, ap (λ (ms : List PendingMessage). length ms) (disconnects-all p n d past)) in
    subst (λ (m : ℕ). NamesGoOn old m d) all l.names

-- ---- one further

abbrev disconnect_of : ℕ → OpenConnection → List PendingMessage → List PendingMessage
disconnect_of p c ms = cons_option (disconnection p c) ms

disconnects-next : (p n : ℕ) (d : TablesView) (h : Held OpenConnection) → slice_get d.connections.held n ≡ Some h → disconnect_messages_from p n d ≡ disconnect_of p h.item (filter_map (disconnection p) (items (drop (n + 1) d.connections.held)))
disconnects-next p n d h here = ap (λ (hs : List (Held OpenConnection)). filter_map (disconnection p) (items hs)) (drop-nth d.connections.held n h here)

served-next : (n : ℕ) (old d : TablesView) (h : Held OpenConnection) → slice_get d.connections.held n ≡ Some h → All (IsServed old) (drop n d.connections.held) → IsServed old h × All (IsServed old) (drop (n + 1) d.connections.held)
served-next n old d h here served =
    let all : All (IsServed old) (h ∷ drop (n + 1) d.connections.held) = subst (λ (hs : List (Held OpenConnection)). All (IsServed old) hs) (drop-nth d.connections.held n h here) served in
    (All-head (IsServed old) h (drop (n + 1) d.connections.held) all, All-tail (IsServed old) h (drop (n + 1) d.connections.held) all)

-- another's connection
pub leaves-other : (p n : ℕ) (old d : TablesView) (h : Held OpenConnection) → Leaves p old n d → slice_get d.connections.held n ≡ Some h → (h.item.client.0 == p) ≡ false → Leaves p old (n + 1) d
leaves-other p n old d h l here other =
    let kept : held_without_client p h ≡ Some h = ap (λ (b : Bool). in_slot h (if b then (if is_dead h.item.phase then None else Some (record h.item { phase = Closing })) else Some h.item)) other in
    let none : disconnection p h.item ≡ None = ap (λ (b : Bool). if b && not (is_dead h.item.phase) then Some (disconnect_message h.item) else None) other in
    let same : disconnect_messages_from p n d ≡ disconnect_messages_from p (n + 1) d = disconnects-next p n d h here ∙ ap (λ (o : Option PendingMessage). cons_option o (disconnect_messages_from p (n + 1) d)) none in
    let held = left_from-same (held_without_client p) d.connections.held n h here kept in
    record {
      connections = (λ j. record d.connections { held = held j }) ∙ l.connections;
      messages = ap (λ (ms : List PendingMessage). messages_of d ++ ms) (sym same) ∙ l.messages;
      rest = l.rest;
      size = l.size;
      sent = l.sent;
      counted = omega (arith, l.counted, ap (λ (ms : List PendingMessage). length ms) same);
      takes = l.takes;
      names = l.names;
      given = l.given;
      services = (served-next n old d h here l.services).1;
    }

-- one of its own that is dead
pub leaves-dead : (p n : ℕ) (old d new : TablesView) (h : Held OpenConnection) → Leaves p old n d → IsKept 256 d.connections → slice_get d.connections.held n ≡ Some h → (h.item.client.0 == p) ≡ true → is_dead h.item.phase ≡ true
    → new ≡ record d { connections = without d.connections h.slot } → Leaves p old n new
leaves-dead p n old d new h l k here own dead after =
    let gone : held_without_client p h ≡ None =
    ap (λ (b : Bool). in_slot h (if b then (if is_dead h.item.phase then None else Some (record h.item { phase = Closing })) else Some h.item)) own
    ∙ ap (λ (b : Bool). in_slot h (if b then None else Some (record h.item { phase = Closing }))) dead in
    let none : disconnection p h.item ≡ None = ap (λ (b : Bool). if b && not (is_dead h.item.phase) then Some (disconnect_message h.item) else None) own ∙ ap (λ (b : Bool). if not b then Some (disconnect_message h.item) else None) dead in
    let same : disconnect_messages_from p n d ≡ disconnect_messages_from p (n + 1) d = disconnects-next p n d h here ∙ ap (λ (o : Option PendingMessage). cons_option o (disconnect_messages_from p (n + 1) d)) none in
    let out = without-at 256 d.connections n h k here in
    let tail : drop n (without d.connections h.slot).held ≡ drop (n + 1) d.connections.held = ap (drop n) out ∙ drop-out d.connections.held n in
    let byes : filter_map (disconnection p) (items (drop n (without d.connections h.slot).held)) ≡ disconnect_messages_from p n d = ap (λ (hs : List (Held OpenConnection)). filter_map (disconnection p) (items hs)) tail ∙ sym same in
    let held = ap (left_from (held_without_client p) n) out ∙ left_from-out (held_without_client p) d.connections.held n h here gone in
    subst (λ (x : TablesView). Leaves p old n x) (sym after) (record {
      connections = (λ j. record d.connections { held = held j }) ∙ l.connections;
      messages = ap (λ (ms : List PendingMessage). messages_of d ++ ms) byes ∙ l.messages;
      rest = ap (λ (x : TablesView). record x { connections = without d.connections h.slot }) l.rest;
      size = l.size;
      sent = l.sent;
      counted = omega (arith, l.counted, ap (λ (ms : List PendingMessage). length ms) byes);
      takes = l.takes;
      names = λ first kept so_far.
          takes-connections (length old.messages.generations) first d (record d { connections = without d.connections h.slot }) kept l.sent (l.names first kept so_far) (connection-names-without d.connections h.slot) refl;
      given = given-on old d (record d { connections = without d.connections h.slot }) l.given
          (record { connections = given-freed d.connections (without d.connections h.slot) h.slot refl; messages = given-same _ _ d.messages });
      services = subst (λ (hs : List (Held OpenConnection)). All (IsServed old) hs) (sym tail) (served-next n old d h here l.services).1;
    })

pub dead-shorter : (n : ℕ) (d new : TablesView) (h : Held OpenConnection) → IsKept 256 d.connections → slice_get d.connections.held n ≡ Some h → new ≡ record d { connections = without d.connections h.slot } → length new.connections.held + 1 ≡ length d.connections.held
dead-shorter n d new h k here after =
    ap (λ (x : TablesView). length x.connections.held + 1) after ∙ ap (λ (hs : List (Held OpenConnection)). length hs + 1) (without-at 256 d.connections n h k here) ∙ length-out d.connections.held n h here

-- one of its own that is not dead has a disconnection to come
own-disconnect : (p n : ℕ) (d : TablesView) (h : Held OpenConnection) → slice_get d.connections.held n ≡ Some h → (h.item.client.0 == p) ≡ true → is_dead h.item.phase ≡ false → disconnect_messages_from p n d ≡ disconnect_message h.item ∷ disconnect_messages_from p (n + 1) d
own-disconnect p n d h here own alive =
    let some : disconnection p h.item ≡ Some (disconnect_message h.item) =
    ap (λ (b : Bool). if b && not (is_dead h.item.phase) then Some (disconnect_message h.item) else None) own ∙ ap (λ (b : Bool). if not b then Some (disconnect_message h.item) else None) alive in
    disconnects-next p n d h here ∙ ap (λ (o : Option PendingMessage). cons_option o (disconnect_messages_from p (n + 1) d)) some

-- for which there is room
pub room-left : (p n : ℕ) (old d : TablesView) (h : Held OpenConnection) → Leaves p old n d → slice_get d.connections.held n ≡ Some h → (h.item.client.0 == p) ≡ true → is_dead h.item.phase ≡ false
    → length (messages_of old) + length (disconnect_messages p old.connections) ≤ length old.messages.generations → length (messages_of d) < length d.messages.generations
room-left p n old d h l here own alive room =
    omega (
      arith,
      l.size,
      ap (λ (ms : List PendingMessage). length ms) l.messages,
      length-append (messages_of d) (disconnect_messages_from p n d),
      length-append (messages_of old) (disconnect_messages p old.connections),
      ap (λ (ms : List PendingMessage). length ms) (own-disconnect p n d h here own alive),
    )

pub takes-left : (p n : ℕ) (old d : TablesView) (h : Held OpenConnection) → Leaves p old n d → slice_get d.connections.held n ≡ Some h → (h.item.client.0 == p) ≡ true → is_dead h.item.phase ≡ false
    → old.messages.takes + length (disconnect_messages p old.connections) ≤ most_takes → d.messages.takes < most_takes
takes-left p n old d h l here own alive few = omega (arith, l.takes, l.counted, ap (λ (ms : List PendingMessage). length ms) (own-disconnect p n d h here own alive))

pub service-known : (p n : ℕ) (old d : TablesView) (h : Held OpenConnection) → Leaves p old n d → slice_get d.connections.held n ≡ Some h → h.item.service < length d.services
service-known p n old d h l here = omega (arith, (served-next n old d h here l.services).0, ap (λ (x : TablesView). length x.services) l.rest)

-- its disconnection is taken in, and then it is closing
pub closing-both : (d mid new : TablesView) (w : Places QueuedMessage) (s : Slot) (c : OpenConnection) → mid ≡ record d { messages = w } → item_at d.connections s ≡ Some c
    → IfSome (item_at mid.connections s) (λ x. new ≡ record mid { connections = with_item mid.connections s (record x { phase = Closing }) })
    → new ≡ record d { connections = with_item d.connections s (record c { phase = Closing }); messages = w }
closing-both d mid new w s c after live change =
    let there : IfSome (item_at d.connections s) (λ x. new ≡ record d { connections = with_item d.connections s (record x { phase = Closing }); messages = w }) =
    subst (λ (e : TablesView). IfSome (item_at e.connections s) (λ x. new ≡ record e { connections = with_item e.connections s (record x { phase = Closing }) })) after change in
    subst (λ (o : Option OpenConnection). IfSome o (λ x. new ≡ record d { connections = with_item d.connections s (record x { phase = Closing }); messages = w })) live there

pub closing-length : (d new : TablesView) (w : Places QueuedMessage) (s : Slot) (c : OpenConnection) → new ≡ record d { connections = with_item d.connections s (record c { phase = Closing }); messages = w } → length new.connections.held ≡ length d.connections.held
closing-length d new w s c after = ap (λ (x : TablesView). length x.connections.held) after ∙ length-map d.connections.held (item_put s (record c { phase = Closing }))

pub leaves-closing : (p n : ℕ) (old d new : TablesView) (h : Held OpenConnection) (place : Slot) (m : QueuedMessage) → Leaves p old n d → IsKept 256 d.connections → slice_get d.connections.held n ≡ Some h
    → item_at d.connections h.slot ≡ Some h.item → free_slot d.messages ≡ Some place → (h.item.client.0 == p) ≡ true → is_dead h.item.phase ≡ false → map held_message (taken d.messages place m).held ≡ messages_of d ++ disconnect_message h.item ∷ []
    → new ≡ record d { connections = with_item d.connections h.slot (record h.item { phase = Closing }); messages = taken d.messages place m } → Leaves p old (n + 1) new
leaves-closing p n old d new h place m l k here live free own alive sent after =
    let closed : Held OpenConnection = record h { item = record h.item { phase = Closing } } in
    let left : held_without_client p h ≡ Some closed =
    ap (λ (b : Bool). in_slot h (if b then (if is_dead h.item.phase then None else Some (record h.item { phase = Closing })) else Some h.item)) own
    ∙ ap (λ (b : Bool). in_slot h (if b then None else Some (record h.item { phase = Closing }))) alive in
    let put = with_item-at 256 d.connections n h (record h.item { phase = Closing }) k here in
    let tail : drop (n + 1) (with_item d.connections h.slot (record h.item { phase = Closing })).held ≡ drop (n + 1) d.connections.held = ap (drop (n + 1)) put ∙ drop-set d.connections.held n closed in
    let later : List PendingMessage = filter_map (disconnection p) (items (drop (n + 1) (with_item d.connections h.slot (record h.item { phase = Closing })).held)) in
    let byes : later ≡ disconnect_messages_from p (n + 1) d = ap (λ (hs : List (Held OpenConnection)). filter_map (disconnection p) (items hs)) tail in
    let bye : disconnect_messages_from p n d ≡ disconnect_message h.item ∷ disconnect_messages_from p (n + 1) d = own-disconnect p n d h here own alive in
    let held = ap (left_from (held_without_client p) (n + 1)) put ∙ left_from-set (held_without_client p) d.connections.held n h closed here left in
    subst (λ (x : TablesView). Leaves p old (n + 1) x) (sym after) (record {
      connections = (λ j. record d.connections { held = held j }) ∙ l.connections;
      messages = ap (λ (ms : List PendingMessage). ms ++ later) sent ∙ append_assoc (messages_of d) (disconnect_message h.item ∷ []) later
          ∙ ap (λ (ms : List PendingMessage). messages_of d ++ disconnect_message h.item ∷ ms) byes ∙ ap (λ (ms : List PendingMessage). messages_of d ++ ms) (sym bye) ∙ l.messages;
      rest = ap (λ (x : TablesView). record x { connections = with_item d.connections h.slot (record h.item { phase = Closing }); messages = taken d.messages place m }) l.rest;
      size = length-set d.messages.generations place.index place.generation ∙ l.size;
      sent = l.sent + 1;
      counted = omega (arith, l.counted, ap (λ (ms : List PendingMessage). length ms) byes, ap (λ (ms : List PendingMessage). length ms) bye);
      takes = omega (arith, l.takes);
      names = λ first kept so_far.
          takes-more (length old.messages.generations) first d (record d { connections = with_item d.connections h.slot (record h.item { phase = Closing }); messages = taken d.messages place m })
          kept l.sent place m (l.names first kept so_far) l.size free (connection-names-item 256 d.connections h.slot h.item (record h.item { phase = Closing }) k live refl) refl;
      given = given-on old d (record d { connections = with_item d.connections h.slot (record h.item { phase = Closing }); messages = taken d.messages place m }) l.given
          (record { connections = given-put _ _ d.connections h.slot h.item (record h.item { phase = Closing }) live (λ e. e); messages = given-taken _ _ d.messages place m free });
      services = subst (λ (hs : List (Held OpenConnection)). All (IsServed old) hs) (sym tail) (served-next n old d h here l.services).1;
    })
