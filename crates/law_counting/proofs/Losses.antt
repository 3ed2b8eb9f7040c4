-- What a panic leaves of each connection and which disconnections it sends, case by case: whether the service is the partition's, whether the client is, and the phase.
use Rattle.std.proofs.Common.{ℕ, ◌≡◌, ◌==◌, Bool, true, false, not, ◌&&◌, List, [], ◌∷◌, ◌++◌, ◌∙◌, ap, refl}
use Rattle.std.specs.Prelude.{Option, Some, None, option_and_then, filter, slice_set, if◌then◌else◌}
use Rattle.std.specs.List.{filter_map, cons_option}
use Rattle.std.specs.Option.{option_map}
use Rattle.ffm_model.specs.declared.system.System.{System}
use Rattle.ffm_model.specs.declared.objects.OpenConnection.{OpenConnection}
use Rattle.ffm_model.specs.declared.objects.PendingMessage.{PendingMessage}
use Rattle.ffm_model.specs.declared.objects.ConnPhase.{ConnPhase}
use Rattle.ffm_model.specs.declared.objects.ConnPhase.TheVariants.{Opening, Closing, Dead}
use Rattle.ffm_model.specs.declared.objects.ActorPhase.TheVariants.{Panicked}
use Rattle.ffm_model.specs.Actors.{is_service_of}
use Rattle.ffm_model.specs.State.{SpmState}
use Rattle.ffm_model.specs.Panic.{is_dead, lost, without_service, without_client, disconnection, clients_answered, callers_answered, panic_effect, disconnect_message}

-- whether the connection outlives the panic of its service
abbrev pub survives : ConnPhase → Bool
survives Opening = false
survives Closing = false
survives _ = true

-- what is left of a connection in this phase; o: to a service of the partition, k: the partition's own
abbrev pub left_as : Bool → Bool → ConnPhase → OpenConnection → List OpenConnection
left_as o k ph c =
    if o
    then (if survives ph && not k then record c { phase = Dead } ∷ [] else [])
    else (if k then (if is_dead ph then [] else record c { phase = Closing } ∷ []) else record c { phase = ph } ∷ [])

abbrev pub all_left : System → ℕ → List OpenConnection → List OpenConnection
all_left s p [] = []
all_left s p (c ∷ cs) = left_as (is_service_of s p c.service) (c.client.0 == p) c.phase c ++ all_left s p cs

-- the disconnections of the partition's own
abbrev pub disconnect_as : Bool → Bool → ConnPhase → OpenConnection → List PendingMessage
disconnect_as o k ph c = if o then [] else (if k then (if is_dead ph then [] else disconnect_message c ∷ []) else [])

abbrev pub all_disconnects : System → ℕ → List OpenConnection → List PendingMessage
all_disconnects s p [] = []
all_disconnects s p (c ∷ cs) = disconnect_as (is_service_of s p c.service) (c.client.0 == p) c.phase c ++ all_disconnects s p cs

-- the loss of the service, in these cases
abbrev served : Bool → ConnPhase → OpenConnection → Option OpenConnection
served o ph c = if o then option_map (λ f. record c { phase = f }) (lost ph) else Some (record c { phase = ph })

abbrev left_in : Bool → OpenConnection → Option OpenConnection
left_in k d = if k then (if is_dead d.phase then None else Some (record d { phase = Closing })) else Some d

abbrev disconnect_in : Bool → OpenConnection → Option PendingMessage
disconnect_in k d = if k && not (is_dead d.phase) then Some (disconnect_message d) else None

left-cases : (c : OpenConnection) (xs : List OpenConnection) (o k : Bool) (ph : ConnPhase) → cons_option (option_and_then (left_in k) (served o ph c)) xs ≡ left_as o k ph c ++ xs
left-cases c xs true true Opening = refl
left-cases c xs true false Opening = refl
left-cases c xs false true Opening = refl
left-cases c xs _ _ _ = refl

disconnect-cases : (c : OpenConnection) (xs : List PendingMessage) (o k : Bool) (ph : ConnPhase) → cons_option (option_and_then (disconnect_in k) (served o ph c)) xs ≡ disconnect_as o k ph c ++ xs
disconnect-cases c xs true true Opening = refl
disconnect-cases c xs true false Opening = refl
disconnect-cases c xs false true Opening = refl
disconnect-cases c xs _ _ _ = refl

left-one : (p : ℕ) (c : OpenConnection) (o : Bool) (l : Option ConnPhase)
    → option_and_then (without_client p) (if o then option_map (λ f. record c { phase = f }) l else Some c) ≡ option_and_then (left_in (c.client.0 == p)) (if o then option_map (λ f. record c { phase = f }) l else Some c)
left-one p c true None = refl
left-one p c true (Some f) = refl
left-one p c false l = refl

disconnect-one : (p : ℕ) (c : OpenConnection) (o : Bool) (l : Option ConnPhase)
    → option_and_then (disconnection p) (if o then option_map (λ f. record c { phase = f }) l else Some c) ≡ option_and_then (disconnect_in (c.client.0 == p)) (if o then option_map (λ f. record c { phase = f }) l else Some c)
disconnect-one p c true None = refl
disconnect-one p c true (Some f) = refl
disconnect-one p c false l = refl

all_left-is : (s : System) (p : ℕ) (cs : List OpenConnection) → filter_map (λ c. option_and_then (without_client p) (without_service s p c)) cs ≡ all_left s p cs
all_left-is s p [] = refl
all_left-is s p (c ∷ cs) =
    ap (λ xs. cons_option (option_and_then (without_client p) (without_service s p c)) xs) (all_left-is s p cs)
    ∙ ap (λ o. cons_option o (all_left s p cs)) (left-one p c (is_service_of s p c.service) (lost c.phase))
    ∙ left-cases c (all_left s p cs) (is_service_of s p c.service) (c.client.0 == p) c.phase

disconnects-is : (s : System) (p : ℕ) (cs : List OpenConnection) → filter_map (λ c. option_and_then (disconnection p) (without_service s p c)) cs ≡ all_disconnects s p cs
disconnects-is s p [] = refl
disconnects-is s p (c ∷ cs) =
    ap (λ xs. cons_option (option_and_then (disconnection p) (without_service s p c)) xs) (disconnects-is s p cs)
    ∙ ap (λ o. cons_option o (all_disconnects s p cs)) (disconnect-one p c (is_service_of s p c.service) (lost c.phase))
    ∙ disconnect-cases c (all_disconnects s p cs) (is_service_of s p c.service) (c.client.0 == p) c.phase

-- the effect of a panic in these words
abbrev pub after_panic : System → SpmState → ℕ → SpmState
after_panic s b p = record b {
  phases = callers_answered s p b.messages (clients_answered s p b.connections (slice_set b.phases p Panicked));
  connections = all_left s p b.connections;
  messages = filter (λ m. not (is_service_of s p m.service)) b.messages ++ all_disconnects s p b.connections;
}

pub after_panic-is : (s : System) (b : SpmState) (p : ℕ) → panic_effect s b p ≡ after_panic s b p
after_panic-is s b p = rw (all_left-is s p b.connections, disconnects-is s p b.connections) refl
