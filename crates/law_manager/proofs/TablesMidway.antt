-- The state that tables hold in the middle of a panic.
use Rattle.std.proofs.Common.{ℕ, ◌≡◌, ◌<◌, Bool, true, false, cond, not, List, [], ◌∷◌, filter, length, map, arith, ◌∙◌, ap, sym, refl, subst}
use Rattle.std.specs.Prelude.{All, None, Option, Some}
use Rattle.std.specs.List.{cons_option, filter_map}
use Rattle.std.proofs.lemmas.List.Elements.{All-filter}
use Rattle.ffm_model.specs.declared.system.System.{System}
use Rattle.ffm_model.specs.declared.objects.ActorPhase.{ActorPhase}
use Rattle.ffm_model.specs.declared.objects.ActorPhase.TheVariants.{Panicked, Running}
use Rattle.ffm_model.specs.declared.objects.OpenConnection.{OpenConnection}
use Rattle.ffm_model.specs.declared.objects.PendingMessage.{PendingMessage}
use Rattle.ffm_model.specs.Actors.{is_service_of}
use Rattle.ffm_model.specs.Panic.{callers_answered, clients_answered, without_service}
use Rattle.ffm_model.specs.State.{SpmState, phase_of, with_phase}
use Rattle.object_pools.specs.declared.slot.Held.{Held}
use Rattle.law_counting.specs.Objects.{ObjectsFit}
use Rattle.law_counting.proofs.Owed.{set-twice}
use Rattle.law_counting.proofs.Parts.{phase_same}
use Rattle.machine_rules.specs.Vectors.{AreWithin}
use Rattle.spm_tables.specs.declared.item.QueuedMessage.{QueuedMessage}
use Rattle.spm_tables.specs.TablesView.{MadeFor, Shape, TablesView, held_message, spm_of}
use Rattle.panic_state.specs.Losses.{as_client, held_without_service, in_slot}
use Rattle.law_manager.proofs.Midway.{midway, midway-fits}

-- the connections of the slots that are left
left-of-slots : (s : System) (p : ℕ) (hs : List (Held OpenConnection)) → map (λ (h : Held OpenConnection). h.item) (filter_map (held_without_service s p) hs) ≡ filter_map (without_service s p) (map (λ (h : Held OpenConnection). h.item) hs)
left-of-slots s p [] = refl
left-of-slots s p (h ∷ hs) =
    let rest : List (Held OpenConnection) = filter_map (held_without_service s p) hs in
    let here : (o : Option OpenConnection) → map (λ (x : Held OpenConnection). x.item) (cons_option (in_slot h o) rest) ≡ cons_option o (map (λ (x : Held OpenConnection). x.item) rest) = elim [ None ↦ refl | Some c ↦ refl ] in
    here (without_service s p h.item) ∙ ap (cons_option (without_service s p h.item)) (left-of-slots s p hs)

-- the messages of the slots that are left
kept-of-slots : (s : System) (p : ℕ) (hs : List (Held QueuedMessage)) → map held_message (filter (λ h. not (is_service_of s p h.item.service)) hs) ≡ filter (λ m. not (is_service_of s p m.service)) (map held_message hs)
kept-of-slots s p [] = refl
kept-of-slots s p (h ∷ hs) =
    let rest : List (Held QueuedMessage) = filter (λ x. not (is_service_of s p x.item.service)) hs in
    let here : (b : Bool) → map held_message (cond b (h ∷ rest) rest) ≡ cond b (held_message h ∷ map held_message rest) (map held_message rest) = elim [ true ↦ refl | false ↦ refl ] in
    let kept : Bool = not (is_service_of s p h.item.service) in
    here kept ∙ ap (λ (ms : List PendingMessage). cond kept (held_message h ∷ ms) ms) (kept-of-slots s p hs)

connections-left : (s : System) (p : ℕ) (d : TablesView) → (spm_of (as_client s p d)).connections ≡ filter_map (without_service s p) (spm_of d).connections
connections-left s p d = left-of-slots s p d.connections.held

messages-kept : (s : System) (p : ℕ) (d : TablesView) → (spm_of (as_client s p d)).messages ≡ filter (λ m. not (is_service_of s p m.service)) (spm_of d).messages
messages-kept s p d = kept-of-slots s p d.messages.held

tables-midway : (s : System) (p : ℕ) (d : TablesView) → spm_of (as_client s p d) ≡ midway s (spm_of d) p
tables-midway s p d =
    let left = connections-left s p d in
    let kept = messages-kept s p d in
    λ j. record (spm_of (as_client s p d)) { connections = left j; messages = kept j }

pub tables-fit : (s : System) (d : TablesView) (p : ℕ) → MadeFor d s → p < length s.partitions → ObjectsFit s (with_phase (spm_of d) p Running) → ObjectsFit s (spm_of (as_client s p d))
tables-fit s d p made inside fits =
    let there : p < length d.phases = omega (arith, ap (λ (x : Shape). x.actors) made) in
    let running : phase_of (with_phase (spm_of d) p Running) p ≡ Running = phase_same d.phases p Running there in
    let on : List ActorPhase → SpmState = λ phases. record (midway s (spm_of d) p) { phases = callers_answered s p (spm_of d).messages (clients_answered s p (spm_of d).connections phases) } in
    subst (ObjectsFit s) (sym (tables-midway s p d))
    (subst (λ (phases : List ActorPhase). ObjectsFit s (on phases)) (set-twice d.phases p Running Panicked) (midway-fits s (with_phase (spm_of d) p Running) p fits running))

pub tables-within : (ranges : List (ℕ × ℕ)) (s : System) (d : TablesView) (p : ℕ) → All (λ m. AreWithin ranges m.vectors) (spm_of d).messages → All (λ m. AreWithin ranges m.vectors) (spm_of (as_client s p d)).messages
tables-within ranges s d p within =
    subst (All (λ m. AreWithin ranges m.vectors)) (sym (messages-kept s p d))
    (All-filter (λ m. not (is_service_of s p m.service)) (λ m. AreWithin ranges m.vectors) (spm_of d).messages within)
