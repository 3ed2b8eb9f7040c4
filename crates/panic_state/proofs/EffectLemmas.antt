-- What a panic leaves of the tables is the effect that the machine has.
use Rattle.std.proofs.Common.{ℕ, ◌≡◌, ◌<◌, ◌≤◌, ◌+◌, Bool, true, false, cond, not, List, [], ◌∷◌, ◌++◌, length, length-append, map, filter, get_or, arith, ◌∙◌, ap, sym, refl, subst}
use Rattle.std.specs.Prelude.{Option, Some, None, slice_set, All, if◌then◌else◌, option_and_then}
use Rattle.std.specs.List.{cons_option, filter_map}
use Rattle.std.specs.Option.{option_map}
use Rattle.std.proofs.Math.ListN.{length-set}
use Rattle.std.proofs.lemmas.List.{length-map, get_or-map}
use Rattle.ffm_model.proofs.PanicLemmas.{chosen_twice}
use Rattle.ffm_model.specs.declared.system.System.{System}
use Rattle.ffm_model.specs.declared.objects.OpenConnection.{OpenConnection}
use Rattle.ffm_model.specs.declared.objects.PendingMessage.{PendingMessage}
use Rattle.ffm_model.specs.declared.objects.ConnPhase.{ConnPhase}
use Rattle.ffm_model.specs.declared.objects.ActorPhase.{ActorPhase}
use Rattle.ffm_model.specs.declared.objects.ActorPhase.TheVariants.{Running, Ready, Ended, Panicked}
use Rattle.ffm_model.specs.declared.objects.ConnPhase.TheVariants.{Opening, Busy, Closing}
use Rattle.ffm_model.specs.declared.machine.Outcome.TheVariants.{Value, Done}
use Rattle.ffm_model.specs.declared.constants.TheConstants.{PSA_ERROR_CONNECTION_REFUSED, PSA_ERROR_COMMUNICATION_FAILURE}
use Rattle.ffm_model.specs.Signals.{is_blocked}
use Rattle.ffm_model.specs.Actors.{is_service_of}
use Rattle.ffm_model.specs.State.{SpmState, with_phase, phase_of}
use Rattle.ffm_model.specs.Names.{SlotName, message_capacity}
use Rattle.ffm_model.specs.Panic.{panic_effect, callers_answered, client_answered, clients_answered, is_lost_request, without_service, without_client, disconnection, lost}
use Rattle.ffm_model.proofs.WellFormedLemmas.{few_connections}
use Rattle.object_pools.specs.declared.slot.Held.{Held}
use Rattle.object_pools.specs.Pool.{Places}
use Rattle.handle_table.specs.Table.{connections}
use Rattle.law_counting.specs.Objects.{ObjectsFit}
use Rattle.law_counting.proofs.Parts.{phase_same}
use Rattle.law_counting.proofs.Bounds.{few-connections}
use Rattle.law_counting.proofs.Rooms.{panic-room}
use Rattle.spm_tables.specs.TablesView.{TablesView, Shape, MadeFor, spm_of, shape_of, held_message, service_signal}
use Rattle.law_calls.specs.Named.{KeepsGiven, KeepsNames}
use Rattle.law_calls.specs.PoolChanges.{PairsOff, KeepsConnectionNames, TakesOn, names_of}
use Rattle.law_calls.proofs.Given.{All-left, given-filter, given-on, given-some}
use Rattle.law_calls.proofs.Moves.{connection-names-some}
use Rattle.law_calls.proofs.Panics.{follows-panicked, takes-first}
use Rattle.law_calls.proofs.Removals.{fitting-pairs-off}
use Rattle.panic_state.specs.Losses.{left_by, in_slot, held_without_service, held_without_client, as_client, disconnect_messages}
use Rattle.panic_state.proofs.Lists.{map-left, map-kept}
use Rattle.panic_state.proofs.ServiceLemmas.{services-known}
use Rattle.panic_state.proofs.Walks.{items}
use Rattle.law_counting.proofs.Owed.{set-twice}
use Rattle.law_counting.proofs.Rooms.{panic-fits}

seen-left : (h : Held OpenConnection) (o : Option OpenConnection) → option_map (λ (x : Held OpenConnection). x.item) (in_slot h o) ≡ o
seen-left h None = refl
seen-left h (Some c) = refl

connections-served : (s : System) (p : ℕ) (d : TablesView) → items (as_client s p d).connections.held ≡ filter_map (without_service s p) (connections d.connections)
connections-served s p d = map-left (λ (h : Held OpenConnection). h.item) (held_without_service s p) (without_service s p) (λ h. seen-left h (without_service s p h.item)) d.connections.held

disconnects-are : (s : System) (p : ℕ) (d : TablesView) → disconnect_messages p (as_client s p d).connections ≡ filter_map (λ c. option_and_then (disconnection p) (without_service s p c)) (connections d.connections)
disconnects-are s p d = ap (filter_map (disconnection p)) (connections-served s p d) ∙ chosen_twice (without_service s p) (disconnection p) (connections d.connections)

connections-are : (s : System) (p : ℕ) (d : TablesView)
    → connections (left_by (held_without_client p) (as_client s p d).connections) ≡ filter_map (λ c. option_and_then (without_client p) (without_service s p c)) (connections d.connections)
connections-are s p d =
    map-left (λ (h : Held OpenConnection). h.item) (held_without_client p) (without_client p) (λ h. seen-left h (without_client p h.item)) (as_client s p d).connections.held
    ∙ ap (filter_map (without_client p)) (connections-served s p d) ∙ chosen_twice (without_service s p) (without_client p) (connections d.connections)

messages-kept : (s : System) (p : ℕ) (d : TablesView) → map held_message (as_client s p d).messages.held ≡ filter (λ m. not (is_service_of s p m.service)) (map held_message d.messages.held)
messages-kept s p d = map-kept held_message (λ m. not (is_service_of s p m.service)) d.messages.held

-- ---- the effect

pub effect-is : (s : System) (p : ℕ) (d mid new : TablesView) → mid ≡ as_client s p d → new.connections ≡ left_by (held_without_client p) mid.connections
    → map held_message new.messages.held ≡ map held_message mid.messages.held ++ disconnect_messages p mid.connections → new ≡ record mid { connections = new.connections; messages = new.messages } → spm_of new ≡ panic_effect s (spm_of d) p
effect-is s p d mid new before of_connections messages rest =
    let at : record mid { connections = new.connections; messages = new.messages } ≡ record (as_client s p d) { connections = new.connections; messages = new.messages } = ap (λ (x : TablesView). record x { connections = new.connections; messages = new.messages }) before in
    let is : new ≡ record (as_client s p d) { connections = new.connections; messages = new.messages } = rest ∙ at in
    let made : new.connections ≡ left_by (held_without_client p) (as_client s p d).connections = of_connections ∙ ap (λ (x : TablesView). left_by (held_without_client p) x.connections) before in
    let cs = ap connections made ∙ connections-are s p d in
    let count = ap (λ (x : Places OpenConnection). x.takes) made in
    let ms = messages ∙ ap (λ (x : TablesView). map held_message x.messages.held ++ disconnect_messages p x.connections) before
    ∙ ap (λ (xs : List PendingMessage). xs ++ disconnect_messages p (as_client s p d).connections) (messages-kept s p d)
    ∙ ap (λ (xs : List PendingMessage). filter (λ m. not (is_service_of s p m.service)) (map held_message d.messages.held) ++ xs) (disconnects-are s p d) in
    ap spm_of is ∙ (λ j. record (spm_of (as_client s p d)) { connections = cs j; connections_made = count j; messages = ms j })

-- ---- the room

-- the messages that stay and those that come are no more than there can be at once
pub room-of : (s : System) (p : ℕ) (d : TablesView) → MadeFor d s → p < length s.partitions → ObjectsFit s (with_phase (spm_of d) p Running)
    → length (as_client s p d).messages.held + length (disconnect_messages p (as_client s p d).connections) ≤ message_capacity s
room-of s p d made inside fits =
    let there : p < length d.phases = omega (arith, ap (λ (x : Shape). x.actors) made) in
    let running : phase_of (with_phase (spm_of d) p Running) p ≡ Running = phase_same d.phases p Running there in
    let kept : List PendingMessage = filter (λ m. not (is_service_of s p m.service)) (map held_message d.messages.held) in
    let sent : List PendingMessage = filter_map (λ c. option_and_then (disconnection p) (without_service s p c)) (connections d.connections) in
    omega (
      arith,
      panic-room s (with_phase (spm_of d) p Running) p fits running,
      length-append kept sent,
      ap (λ (ms : List PendingMessage). length ms) (messages-kept s p d),
      ap (λ (ms : List PendingMessage). length ms) (disconnects-are s p d),
      length-map (as_client s p d).messages.held held_message,
    )

-- ---- the services of the connections

-- of one slot, serial number, handle and service
abbrev IsSameAs : Held OpenConnection → Held OpenConnection → Type 0
IsSameAs x y = (y.slot ≡ x.slot) × (y.item.serial ≡ x.item.serial) × (y.item.handle ≡ x.item.handle) × (y.item.service ≡ x.item.service)

-- a connection that stays is so
stays-same : (x y : Held OpenConnection) (b : Bool) (l : Option ConnPhase) → in_slot x (if b then option_map (λ f. record x.item { phase = f }) l else Some x.item) ≡ Some y
    → IsSameAs x y
stays-same x y true None f = cc
stays-same x y true (Some ph) f = let it : record x { item = record x.item { phase = ph } } ≡ y = cc in subst (IsSameAs x) it (refl, refl, refl, refl)
stays-same x y false l f = let it : x ≡ y = cc in subst (IsSameAs x) it (refl, refl, refl, refl)

pub services-of : (s : System) (p : ℕ) (d : TablesView) → MadeFor d s → ObjectsFit s (with_phase (spm_of d) p Running) → All (λ h. h.item.service < length (as_client s p d).services) (as_client s p d).connections.held
services-of s p d made fit =
    let count : length d.services ≡ length s.services = ap (λ (x : Shape). length x.services) made ∙ length-map s.services service_signal in
    let all : All (λ h. h.item.service < length d.services) d.connections.held =
    λ k h lt.
    let at : get_or (connections d.connections) k h.item ≡ (get_or d.connections.held k h).item = get_or-map (λ (x : Held OpenConnection). x.item) d.connections.held k h h.item lt in
    let here : (get_or (connections d.connections) k h.item).service < length s.services =
    services-known s (with_phase (spm_of d) p Running) fit.budgets k h.item (omega (arith, lt, length-map d.connections.held (λ (x : Held OpenConnection). x.item))) in
    omega (arith, here, count, ap (λ (c : OpenConnection). c.service) at) in
    All-left (λ h. h.item.service < length d.services) (held_without_service s p)
    (λ x y e below. omega (arith, below, (stays-same x y (is_service_of s p x.item.service) (lost x.item.phase) e).3)) d.connections.held all

-- ---- the shape

answered-length : (phase : ConnPhase) (phases : List ActorPhase) (client : ℕ) → length (client_answered phase phases client) ≡ length phases
answered-length Opening phases client = length-set phases client (Ready (Value PSA_ERROR_CONNECTION_REFUSED))
answered-length Busy phases client = length-set phases client (Ready (Value PSA_ERROR_COMMUNICATION_FAILURE))
answered-length Closing phases client =
    let go : (b : Bool) → length (cond b (slice_set phases client (Ready Done)) phases) ≡ length phases = elim [ true ↦ length-set phases client (Ready Done) | false ↦ refl ] in
    go (is_blocked (get_or phases client Ended))
answered-length _ phases client = refl

clients-length : (s : System) (p : ℕ) (cs : List OpenConnection) (phases : List ActorPhase) → length (clients_answered s p cs phases) ≡ length phases
clients-length s p [] phases = refl
clients-length s p (c ∷ cs) phases =
    let told : List ActorPhase = client_answered c.phase phases c.client.0 in
    let go : (b : Bool) → length (cond b told phases) ≡ length phases = elim [ true ↦ answered-length c.phase phases c.client.0 | false ↦ refl ] in
    clients-length s p cs (cond (is_service_of s p c.service) told phases) ∙ go (is_service_of s p c.service)

callers-length : (s : System) (p : ℕ) (ms : List PendingMessage) (phases : List ActorPhase) → length (callers_answered s p ms phases) ≡ length phases
callers-length s p [] phases = refl
callers-length s p (m ∷ ms) phases =
    let told : List ActorPhase = slice_set phases m.client.0 (Ready (Value PSA_ERROR_COMMUNICATION_FAILURE)) in
    let go : (b : Bool) → length (cond b told phases) ≡ length phases = elim [ true ↦ length-set phases m.client.0 (Ready (Value PSA_ERROR_COMMUNICATION_FAILURE)) | false ↦ refl ] in
    callers-length s p ms (cond (is_lost_request s p m) told phases) ∙ go (is_lost_request s p m)

pub shape-is : (s : System) (p : ℕ) (d mid new : TablesView) → mid ≡ as_client s p d → new.connections ≡ left_by (held_without_client p) mid.connections
    → length new.messages.generations ≡ length mid.messages.generations → new ≡ record mid { connections = new.connections; messages = new.messages } → shape_of new ≡ shape_of d
shape-is s p d mid new before of_connections size rest =
    let is : new ≡ record (as_client s p d) { connections = new.connections; messages = new.messages } = rest ∙ ap (λ (x : TablesView). record x { connections = new.connections; messages = new.messages }) before in
    let made = ap (λ (x : Places OpenConnection). length x.generations) (of_connections ∙ ap (λ (x : TablesView). left_by (held_without_client p) x.connections) before) in
    let room = size ∙ ap (λ (x : TablesView). length x.messages.generations) before in
    let phases =
    callers-length s p (map held_message d.messages.held) (clients_answered s p (connections d.connections) (slice_set d.phases p Panicked))
    ∙ clients-length s p (connections d.connections) (slice_set d.phases p Panicked) ∙ length-set d.phases p Panicked in
    ap shape_of is ∙ (λ j. record (shape_of d) { actors = phases j; connections = made j; messages = room j })

length-some : {X Y : Type 0} (f : X → Option Y) (xs : List X) → length (filter_map f xs) ≤ length xs
length-some f [] = omega arith
length-some {Y = Y} f (x ∷ xs) =
    let go : (o : Option Y) → length (cons_option o (filter_map f xs)) ≤ length xs + 1 = elim [ None ↦ omega (arith, length-some f xs) | Some y ↦ omega (arith, length-some f xs) ] in
    omega (arith, go (f x))

-- a connection has one disconnection at most
pub few-disconnects : (s : System) (p : ℕ) (d : TablesView) → ObjectsFit s (with_phase (spm_of d) p Running) → length (disconnect_messages p (as_client s p d).connections) ≤ 256
few-disconnects s p d fit =
    omega (
      arith,
      ap (λ (ms : List PendingMessage). length ms) (disconnects-are s p d),
      length-some (λ c. option_and_then (disconnection p) (without_service s p c)) (connections d.connections),
      few-connections s (with_phase (spm_of d) p Running) fit,
      few_connections s,
    )

-- ---- the names

pub names-are : (s : System) (p : ℕ) (d mid new : TablesView) → MadeFor d s → ObjectsFit s (with_phase (spm_of d) p Running) → mid ≡ as_client s p d → spm_of new ≡ panic_effect s (spm_of d) p
    → ((first : TablesView) (kept : List SlotName) → TakesOn (length mid.messages.generations) first kept 0 mid → TakesOn (length mid.messages.generations) first kept (length (disconnect_messages p mid.connections)) new) → KeepsGiven mid new → KeepsNames s d new
names-are s p d mid new made fit before effect more given =
    let off : PairsOff (with_phase (spm_of d) p Running) = fitting-pairs-off s (with_phase (spm_of d) p Running) fit in
    let pairs : PairsOff (spm_of d) = record { paired = off.paired; calls = off.calls; rising = off.rising } in
    let kept : List SlotName = names_of (λ h. not (is_service_of s p h.item.service)) d.messages in
    let size : length mid.messages.generations ≡ message_capacity s = ap (λ (x : TablesView). length x.messages.generations) before ∙ ap (λ (x : Shape). x.messages) made in
    let of_connections : KeepsConnectionNames d.connections (as_client s p d).connections =
    connection-names-some d.connections (held_without_service s p) (λ h g e. let it = stays-same h g (is_service_of s p h.item.service) (lost h.item.phase) e in (it.0, it.1)) in
    let gone : TakesOn (message_capacity s) d kept 0 (as_client s p d) = takes-first (message_capacity s) d (as_client s p d) (λ h. not (is_service_of s p h.item.service)) of_connections refl in
    let there : TakesOn (length mid.messages.generations) d kept 0 mid = subst (λ (n : ℕ). TakesOn n d kept 0 mid) (sym size) (subst (λ (x : TablesView). TakesOn (message_capacity s) d kept 0 x) (sym before) gone) in
    let all : TakesOn (message_capacity s) d kept (length (disconnect_messages p mid.connections)) new = subst (λ (n : ℕ). TakesOn n d kept (length (disconnect_messages p mid.connections)) new) size (more d kept there) in
    let fresh : KeepsGiven d (as_client s p d) = record {
      connections = given-some d.connections (held_without_service s p) (λ h g e. let it = stays-same h g (is_service_of s p h.item.service) (lost h.item.phase) e in (it.0, it.2));
      messages = given-filter _ _ d.messages (λ h. not (is_service_of s p h.item.service));
    } in
    record {
      names = follows-panicked s d new p kept (length (disconnect_messages p mid.connections)) pairs effect refl all;
      given = given-on d mid new (subst (KeepsGiven d) (sym before) fresh) given;
    }

-- ---- the objects

pub panicked-fits : (s : System) (p : ℕ) (d : TablesView) → MadeFor d s → p < length s.partitions → ObjectsFit s (with_phase (spm_of d) p Running) → ObjectsFit s (panic_effect s (spm_of d) p)
panicked-fits s p d made inside fits =
    let there : p < length d.phases = omega (arith, ap (λ (x : Shape). x.actors) made) in
    let running : phase_of (with_phase (spm_of d) p Running) p ≡ Running = phase_same d.phases p Running there in
    let on : List ActorPhase → SpmState = λ phases. record (panic_effect s (spm_of d) p) { phases = callers_answered s p (spm_of d).messages (clients_answered s p (spm_of d).connections phases) } in
    subst (λ (phases : List ActorPhase). ObjectsFit s (on phases)) (set-twice d.phases p Running Panicked) (panic-fits s (with_phase (spm_of d) p Running) p fits running)
