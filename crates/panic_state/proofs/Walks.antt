-- The tables while a panic walks through the connections or messages: those before a place are done.
use Rattle.std.proofs.Common.{ℕ, ◌≡◌, ◌≤◌, ◌+◌, Bool, true, false, not, ◌&&◌, List, [], ◌∷◌, length, map, filter, drop, cond, ◌∙◌, ap, sym, refl}
use Rattle.std.specs.Prelude.{Option, Some, None, is_none, is_some, if◌then◌else◌, slice_get, slice_set}
use Rattle.std.specs.List.{filter_map, cons_option}
use Rattle.std.specs.Option.{option_map}
use Rattle.ffm_model.specs.declared.system.System.{System}
use Rattle.ffm_model.specs.declared.objects.OpenConnection.{OpenConnection}
use Rattle.ffm_model.specs.declared.objects.ConnPhase.{ConnPhase}
use Rattle.ffm_model.specs.declared.objects.ActorPhase.{ActorPhase}
use Rattle.ffm_model.specs.declared.objects.ActorPhase.TheVariants.{Ready}
use Rattle.ffm_model.specs.declared.machine.Outcome.TheVariants.{Value}
use Rattle.ffm_model.specs.declared.constants.TheConstants.{PSA_ERROR_COMMUNICATION_FAILURE}
use Rattle.ffm_model.specs.Actors.{is_service_of}
use Rattle.ffm_model.specs.Panic.{lost, callers_answered, client_answered, clients_answered}
use Rattle.object_pools.specs.declared.slot.Held.{Held}
use Rattle.object_pools.specs.Pool.{IsKept, with_item, without}
use Rattle.spm_tables.specs.declared.item.QueuedMessage.{QueuedMessage}
use Rattle.spm_tables.specs.TablesView.{TablesView}
use Rattle.panic_state.specs.Losses.{caller_answered, with_dropped, with_left, in_slot, in_phase, held_without_service, with_lost, without_messages}
use Rattle.panic_state.proofs.Lists.{left_from, left_from-same, left_from-set, left_from-out, left_from-all, length-out, drop-nth, drop-set, drop-out, drop-all}
use Rattle.panic_state.proofs.PlaceLemmas.{with_item-at, without-at}
use Rattle.law_calls.proofs.KeptSlots.{message_list}

abbrev pub items : List (Held OpenConnection) → List OpenConnection
items hs = map (λ h. h.item) hs

-- the services of the connections from a place on are gone too
abbrev pub services_from : System → ℕ → ℕ → TablesView → TablesView
services_from s p n d = record d {
  connections = record d.connections { held = left_from (held_without_service s p) n d.connections.held };
  phases = clients_answered s p (items (drop n d.connections.held)) d.phases;
}

-- at the end none is left to be lost
pub services_from-all : (s : System) (p n : ℕ) (d : TablesView) → length d.connections.held ≤ n → services_from s p n d ≡ d
services_from-all s p n d past = λ j. record d {
  connections = record d.connections { held = left_from-all (held_without_service s p) d.connections.held n past j };
  phases = clients_answered s p (items (drop-all d.connections.held n past j)) d.phases;
}

abbrev answered_by : System → ℕ → List ActorPhase → OpenConnection → List ActorPhase
answered_by s p phases c = if is_service_of s p c.service then client_answered c.phase phases c.client.0 else phases

-- one further, where the service is another partition's
pub services_from-other : (s : System) (p n : ℕ) (d : TablesView) (h : Held OpenConnection) → slice_get d.connections.held n ≡ Some h → is_service_of s p h.item.service ≡ false
    → services_from s p (n + 1) d ≡ services_from s p n d
services_from-other s p n d h here other =
    let kept : held_without_service s p h ≡ Some h = ap (λ (b : Bool). in_slot h (if b then option_map (λ f. record h.item { phase = f }) (lost h.item.phase) else Some h.item)) other in
    let held = left_from-same (held_without_service s p) d.connections.held n h here kept in
    let step : answered_by s p d.phases h.item ≡ d.phases = ap (λ (b : Bool). if b then client_answered h.item.phase d.phases h.item.client.0 else d.phases) other in
    let rest = drop-nth d.connections.held n h here in
    let phases : clients_answered s p (items (drop (n + 1) d.connections.held)) d.phases ≡ clients_answered s p (items (drop n d.connections.held)) d.phases =
    ap (clients_answered s p (items (drop (n + 1) d.connections.held))) (sym step) ∙ ap (λ (hs : List (Held OpenConnection)). clients_answered s p (items hs) d.phases) (sym rest) in
    λ j. record d { connections = record d.connections { held = held j }; phases = phases j }

-- one lost
pub services_from-lost : (s : System) (p n : ℕ) (d new : TablesView) (h : Held OpenConnection) (kept : Bool) → IsKept 256 d.connections → slice_get d.connections.held n ≡ Some h → is_service_of s p h.item.service ≡ true
    → new ≡ with_lost d h → kept ≡ is_some (lost h.item.phase) → services_from s p (if kept then n + 1 else n) new ≡ services_from s p n d
services_from-lost s p n d new h kept k here own after stays =
    let rest = drop-nth d.connections.held n h here in
    let left : (o : Option ConnPhase) → lost h.item.phase ≡ o → held_without_service s p h ≡ in_slot h (in_phase h.item o) =
    λ o e. ap (λ (b : Bool). in_slot h (if b then option_map (λ f. record h.item { phase = f }) (lost h.item.phase) else Some h.item)) own ∙ ap (λ (f : Option ConnPhase). in_slot h (in_phase h.item f)) e in
    let told : List ActorPhase = client_answered h.item.phase d.phases h.item.client.0 in
    let step : answered_by s p d.phases h.item ≡ told = ap (λ (b : Bool). if b then client_answered h.item.phase d.phases h.item.client.0 else d.phases) own in
    let phases : (hs : List (Held OpenConnection)) → hs ≡ drop (n + 1) d.connections.held → clients_answered s p (items hs) told ≡ clients_answered s p (items (drop n d.connections.held)) d.phases =
    λ hs e. ap (λ (xs : List (Held OpenConnection)). clients_answered s p (items xs) told) e ∙ ap (clients_answered s p (items (drop (n + 1) d.connections.held))) (sym step)
    ∙ ap (λ (xs : List (Held OpenConnection)). clients_answered s p (items xs) d.phases) (sym rest) in
    let go : (o : Option ConnPhase) → lost h.item.phase ≡ o
    → services_from s p (if is_some o then n + 1 else n) (record d { connections = with_left d.connections h.slot (in_phase h.item o); phases = told }) ≡ services_from s p n d =
    elim [
      | None ↦ λ e.
          let out = without-at 256 d.connections n h k here in
          let held = ap (left_from (held_without_service s p) n) out ∙ left_from-out (held_without_service s p) d.connections.held n h here (left None e) in
          let tail = phases (drop n (without d.connections h.slot).held) (ap (drop n) out ∙ drop-out d.connections.held n) in
          λ j. record d { connections = record d.connections { held = held j }; phases = tail j }
      | Some f ↦ λ e.
          let changed : Held OpenConnection = record h { item = record h.item { phase = f } } in
          let put = with_item-at 256 d.connections n h (record h.item { phase = f }) k here in
          let held = ap (left_from (held_without_service s p) (n + 1)) put ∙ left_from-set (held_without_service s p) d.connections.held n h changed here (left (Some f) e) in
          let tail = phases (drop (n + 1) (with_item d.connections h.slot (record h.item { phase = f })).held) (ap (drop (n + 1)) put ∙ drop-set d.connections.held n changed) in
          λ j. record d { connections = record d.connections { held = held j }; phases = tail j }
    ] in
    ap (λ (b : Bool). services_from s p (if b then n + 1 else n) new) stays ∙ ap (services_from s p (if is_some (lost h.item.phase) then n + 1 else n)) after ∙ go (lost h.item.phase) refl

-- a connection that goes leaves fewer
pub lost-shorter : (p : ℕ) (d new : TablesView) (h : Held OpenConnection) (kept : Bool) → IsKept 256 d.connections → slice_get d.connections.held p ≡ Some h → new ≡ with_lost d h → kept ≡ is_some (lost h.item.phase) → kept ≡ false
    → length new.connections.held + 1 ≡ length d.connections.held
lost-shorter n d new h kept k here after stays gone =
    let go : (o : Option ConnPhase) → lost h.item.phase ≡ o → is_some o ≡ false → length (with_left d.connections h.slot (in_phase h.item o)).held + 1 ≡ length d.connections.held =
    elim [
      | None ↦ λ e f. ap (λ (hs : List (Held OpenConnection)). length hs + 1) (without-at 256 d.connections n h k here) ∙ length-out d.connections.held n h here
      | Some f ↦ λ e g. cc
    ] in
    ap (λ (x : TablesView). length x.connections.held + 1) after ∙ go (lost h.item.phase) refl (sym stays ∙ gone)

-- the messages from a place on are gone too, where they are to the partition's services
abbrev pub is_kept : System → ℕ → Held QueuedMessage → Option (Held QueuedMessage)
is_kept s p h = if is_service_of s p h.item.service then None else Some h

abbrev pub messages_from : System → ℕ → ℕ → TablesView → TablesView
messages_from s p n d = record d {
  messages = record d.messages { held = left_from (is_kept s p) n d.messages.held };
  phases = callers_answered s p (message_list (drop n d.messages.held)) d.phases;
}

pub messages_from-all : (s : System) (p n : ℕ) (d : TablesView) → length d.messages.held ≤ n → messages_from s p n d ≡ d
messages_from-all s p n d past = λ j. record d {
  messages = record d.messages { held = left_from-all (is_kept s p) d.messages.held n past j };
  phases = callers_answered s p (message_list (drop-all d.messages.held n past j)) d.phases;
}

-- the phases after one message
abbrev told_by : System → ℕ → List ActorPhase → QueuedMessage → List ActorPhase
told_by s p phases m = if is_none m.serial && is_service_of s p m.service then slice_set phases m.client.0 (Ready (Value PSA_ERROR_COMMUNICATION_FAILURE)) else phases

told-other : (s : System) (p : ℕ) (phases : List ActorPhase) (m : QueuedMessage) → is_service_of s p m.service ≡ false → told_by s p phases m ≡ phases
told-other s p phases m other =
    let told : List ActorPhase = slice_set phases m.client.0 (Ready (Value PSA_ERROR_COMMUNICATION_FAILURE)) in
    let go : (x : Bool) → cond (x && false) told phases ≡ phases = elim [ true ↦ refl | false ↦ refl ] in
    ap (λ (b : Bool). cond (is_none m.serial && b) told phases) other ∙ go (is_none m.serial)

told-own : (s : System) (p : ℕ) (phases : List ActorPhase) (m : QueuedMessage) → is_service_of s p m.service ≡ true → told_by s p phases m ≡ caller_answered m phases
told-own s p phases m own =
    let told : List ActorPhase = slice_set phases m.client.0 (Ready (Value PSA_ERROR_COMMUNICATION_FAILURE)) in
    let go : (x : Bool) → cond (x && true) told phases ≡ cond x told phases = elim [ true ↦ refl | false ↦ refl ] in
    ap (λ (b : Bool). cond (is_none m.serial && b) told phases) own ∙ go (is_none m.serial)

pub messages_from-other : (s : System) (p n : ℕ) (d : TablesView) (h : Held QueuedMessage) → slice_get d.messages.held n ≡ Some h → is_service_of s p h.item.service ≡ false → messages_from s p (n + 1) d ≡ messages_from s p n d
messages_from-other s p n d h here other =
    let held = left_from-same (is_kept s p) d.messages.held n h here (ap (λ (b : Bool). if b then None else Some h) other) in
    let phases : callers_answered s p (message_list (drop (n + 1) d.messages.held)) d.phases ≡ callers_answered s p (message_list (drop n d.messages.held)) d.phases =
    ap (callers_answered s p (message_list (drop (n + 1) d.messages.held))) (sym (told-other s p d.phases h.item other))
    ∙ ap (λ (hs : List (Held QueuedMessage)). callers_answered s p (message_list hs) d.phases) (sym (drop-nth d.messages.held n h here)) in
    λ j. record d { messages = record d.messages { held = held j }; phases = phases j }

pub messages_from-gone : (s : System) (p n : ℕ) (d new : TablesView) (h : Held QueuedMessage) → IsKept 304 d.messages → slice_get d.messages.held n ≡ Some h → is_service_of s p h.item.service ≡ true
    → new ≡ with_dropped d h → messages_from s p n new ≡ messages_from s p n d
messages_from-gone s p n d new h k here own after =
    let out = without-at 304 d.messages n h k here in
    let held = ap (left_from (is_kept s p) n) out ∙ left_from-out (is_kept s p) d.messages.held n h here (ap (λ (b : Bool). if b then None else Some h) own) in
    let phases : callers_answered s p (message_list (drop n (without d.messages h.slot).held)) (caller_answered h.item d.phases) ≡ callers_answered s p (message_list (drop n d.messages.held)) d.phases =
    ap (λ (hs : List (Held QueuedMessage)). callers_answered s p (message_list hs) (caller_answered h.item d.phases)) (ap (drop n) out ∙ drop-out d.messages.held n)
    ∙ ap (callers_answered s p (message_list (drop (n + 1) d.messages.held))) (sym (told-own s p d.phases h.item own))
    ∙ ap (λ (hs : List (Held QueuedMessage)). callers_answered s p (message_list hs) d.phases) (sym (drop-nth d.messages.held n h here)) in
    let step : messages_from s p n (with_dropped d h) ≡ messages_from s p n d = λ j. record d { messages = record d.messages { held = held j }; phases = phases j } in
    ap (messages_from s p n) after ∙ step

pub gone-shorter : (n : ℕ) (d new : TablesView) (h : Held QueuedMessage) → IsKept 304 d.messages → slice_get d.messages.held n ≡ Some h → new ≡ with_dropped d h → length new.messages.held + 1 ≡ length d.messages.held
gone-shorter n d new h k here after =
    ap (λ (x : TablesView). length x.messages.held + 1) after ∙ ap (λ (hs : List (Held QueuedMessage)). length hs + 1) (without-at 304 d.messages n h k here) ∙ length-out d.messages.held n h here

-- a filter, as what is left
kept-filter : (s : System) (p : ℕ) (hs : List (Held QueuedMessage)) → filter_map (is_kept s p) hs ≡ filter (λ h. not (is_service_of s p h.item.service)) hs
kept-filter s p [] = refl
kept-filter s p (h ∷ hs) =
    let rest : List (Held QueuedMessage) = filter (λ x. not (is_service_of s p x.item.service)) hs in
    let go : (b : Bool) → cons_option (if b then None else Some h) (filter_map (is_kept s p) hs) ≡ cond (not b) (h ∷ rest) rest =
    elim [ true ↦ kept-filter s p hs | false ↦ ap (λ (xs : List (Held QueuedMessage)). h ∷ xs) (kept-filter s p hs) ] in
    go (is_service_of s p h.item.service)

pub messages_from-none : (s : System) (p : ℕ) (d : TablesView) → messages_from s p 0 d ≡ without_messages s p d
messages_from-none s p d = λ j. record (without_messages s p d) { messages = record d.messages { held = kept-filter s p d.messages.held j } }
