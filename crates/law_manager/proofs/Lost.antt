-- What the panic of a partition leaves of connections when its services are gone, and when it is gone as a client, under tests and counts.
use Rattle.std.proofs.Common.{ℕ, ◌≡◌, ◌≤◌, ◌+◌, ◌==◌, Bool, true, false, ◌&&◌, not, List, [], ◌∷◌, arith, ap, refl, ◌∙◌}
use Rattle.std.specs.Prelude.{count_by, Some, None, if◌then◌else◌}
use Rattle.std.specs.List.{filter_map, cons_option}
use Rattle.std.specs.Option.{option_map}
use Rattle.law_lists.proofs.Counts.{bit, count-cons}
use Rattle.ffm_model.specs.declared.system.System.{System}
use Rattle.ffm_model.specs.declared.objects.OpenConnection.{OpenConnection}
use Rattle.ffm_model.specs.declared.objects.PendingMessage.{PendingMessage}
use Rattle.ffm_model.specs.declared.objects.ConnPhase.{ConnPhase}
use Rattle.ffm_model.specs.declared.objects.ConnPhase.TheVariants.{Opening, Idle, Busy, Error, Closing, Dead}
use Rattle.ffm_model.specs.Actors.{is_service_of}
use Rattle.ffm_model.specs.State.{Rises}
use Rattle.ffm_model.specs.Panic.{is_dead, lost, without_service, without_client, disconnection, disconnect_message}
use Rattle.ffm_model.proofs.SerialLemmas.{rises-weaker}
use Rattle.law_counting.specs.Objects.{Mark, called_by, connection_marked, is_awaited, is_opening}
use Rattle.law_counting.proofs.Parts.{off_right}
use Rattle.law_counting.proofs.Panic.{kept_mark}

-- ---- the services are gone

abbrev pub dead : OpenConnection → OpenConnection
dead c = record c { phase = Dead }

abbrev pub closing : OpenConnection → OpenConnection
closing c = record c { phase = Closing }

-- a connection is gone, or it is dead and wasn't Opening, or it stays
served_cases : (s : System) (p : ℕ) (c : OpenConnection) (rest : List OpenConnection) (P : List OpenConnection → Type 0) → P rest → (is_opening c.phase ≡ false → P (dead c ∷ rest)) → P (c ∷ rest)
    → P (cons_option (without_service s p c) rest)
served_cases s p c rest P gone died stays =
    let left : (f : ConnPhase) → (is_opening f ≡ false → P (dead c ∷ rest)) → P (cons_option (option_map (λ g. record c { phase = g }) (lost f)) rest) =
    elim [
      | Opening ↦ λ d. gone
      | Idle ↦ λ d. d refl
      | Busy ↦ λ d. d refl
      | Error ↦ λ d. d refl
      | Closing ↦ λ d. gone
      | Dead ↦ λ d. d refl
    ] in
    elim (is_service_of s p c.service) as (λ (o : Bool). P (cons_option (if o then option_map (λ g. record c { phase = g }) (lost c.phase) else Some c) rest))
    [ true ↦ left c.phase died | false ↦ stays ]

-- a test that a connection does not begin to pass when it dies counts no more than before
pub served-le : (s : System) (p : ℕ) (q : OpenConnection → Bool) → ((c : OpenConnection) → is_opening c.phase ≡ false → bit (q (dead c)) ≤ bit (q c)) → (cs : List OpenConnection)
    → count_by q (filter_map (without_service s p) cs) ≤ count_by q cs
served-le s p q died [] = omega arith
served-le s p q died (c ∷ cs) =
    let rest : List OpenConnection = filter_map (without_service s p) cs in
    let here : count_by q (cons_option (without_service s p c) rest) ≤ bit (q c) + count_by q rest =
    served_cases s p c rest (λ (xs : List OpenConnection). count_by q xs ≤ bit (q c) + count_by q rest)
    (omega arith) (λ unopened. omega (arith, count-cons q (dead c) rest, died c unopened)) (omega (arith, count-cons q c rest)) in
    omega (arith, here, served-le s p q died cs, count-cons q c cs)

pub served-rises : (s : System) (p lo hi : ℕ) (cs : List OpenConnection) → Rises lo cs hi → Rises lo (filter_map (without_service s p) cs) hi
served-rises s p lo hi [] h = h
served-rises s p lo hi (c ∷ cs) h =
    let rest : Rises (c.serial + 1) (filter_map (without_service s p) cs) hi = served-rises s p (c.serial + 1) hi cs h.1 in
    served_cases s p c (filter_map (without_service s p) cs) (λ (xs : List OpenConnection). Rises lo xs hi)
    (rises-weaker (c.serial + 1) lo hi (filter_map (without_service s p) cs) (omega (arith, h.0)) rest) (λ unopened. (h.0, rest)) (h.0, rest)

lost-unmarked : (t : Mark) (c : OpenConnection) (rest : List OpenConnection) (f : ConnPhase)
    → count_by (connection_marked t) (cons_option (option_map (λ g. record c { phase = g }) (lost f)) rest) ≡ count_by (connection_marked t) rest
lost-unmarked t c rest Opening = refl
lost-unmarked t c rest _ = refl

-- the awaited connections are those to other services, as they were
pub served-marks : (s : System) (p : ℕ) (t : Mark) (cs : List OpenConnection) → count_by (connection_marked t) (filter_map (without_service s p) cs) ≡ count_by (connection_marked (kept_mark s p t)) cs
served-marks s p t [] = refl
served-marks s p t (c ∷ cs) =
    let rest : List OpenConnection = filter_map (without_service s p) cs in
    let marked : Bool = t c.serial c.client.0 c.service c.phase in
    let here : (o : Bool) → count_by (connection_marked t) (cons_option (if o then option_map (λ g. record c { phase = g }) (lost c.phase) else Some c) rest)
    ≡ bit (is_awaited c.phase && (not o && marked)) + count_by (connection_marked t) rest =
    elim [
      | true ↦ omega (arith, lost-unmarked t c rest c.phase, off_right (is_awaited c.phase) false refl)
      | false ↦ count-cons (connection_marked t) c rest
    ] in
    omega (arith, here (is_service_of s p c.service), served-marks s p t cs, count-cons (connection_marked (kept_mark s p t)) c cs)

-- ---- the client is gone

-- a test that none of the client's own connections passes
pub closed-same : (p : ℕ) (q : OpenConnection → Bool) → ((c : OpenConnection) → (c.client.0 == p) ≡ true → q c ≡ false) → (cs : List OpenConnection) → count_by q (filter_map (without_client p) cs) ≡ count_by q cs
closed-same p q off [] = refl
closed-same p q off (c ∷ cs) =
    let rest : List OpenConnection = filter_map (without_client p) cs in
    let here : (k d : Bool) → (c.client.0 == p) ≡ k → count_by q (cons_option (if k then (if d then None else Some (closing c)) else Some c) rest) ≡ bit (q c) + count_by q rest =
    elim [
      | true ↦ elim [
        | true ↦ λ e. omega (arith, ap bit (off c e))
        | false ↦ λ e. omega (arith, count-cons q (closing c) rest, ap bit (off (closing c) e), ap bit (off c e))
      ]
      | false ↦ λ d e. count-cons q c rest
    ] in
    omega (arith, here (c.client.0 == p) (is_dead c.phase) refl, closed-same p q off cs, count-cons q c cs)

-- a disconnection is no request by a stateless handle
pub disconnections-uncalled : (p a : ℕ) (cs : List OpenConnection) → count_by (called_by a) (filter_map (disconnection p) cs) ≡ 0
disconnections-uncalled p a [] = refl
disconnections-uncalled p a (c ∷ cs) =
    let rest : List PendingMessage = filter_map (disconnection p) cs in
    let here : (b : Bool) → count_by (called_by a) (cons_option (if b then Some (disconnect_message c) else None) rest) ≡ count_by (called_by a) rest = elim [ true ↦ refl | false ↦ refl ] in
    here ((c.client.0 == p) && not (is_dead c.phase)) ∙ disconnections-uncalled p a cs
