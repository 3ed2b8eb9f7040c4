-- In the middle of a panic, the services of the partition gone and it still there as a client, connections and messages fit the system.
use Rattle.std.proofs.Common.{ℕ, ◌≡◌, ◌≤◌, ◌+◌, ◌==◌, Bool, true, false, ◌&&◌, ◌||◌, not, List, [], ◌∷◌, get_or, arith, ◌∙◌, ap, sym, refl, subst}
use Rattle.std.specs.Prelude.{count_by, is_none}
use Rattle.std.proofs.lemmas.Bool.{eqb-true}
use Rattle.std.specs.List.{filter_map}
use Rattle.std.proofs.Math.Bool.{and-false}
use Rattle.law_lists.proofs.Counts.{bit, both-le-right, count-cons, count-ext, count-filter-le, count-le}
use Rattle.ffm_model.specs.declared.system.System.{System}
use Rattle.ffm_model.specs.declared.objects.OpenConnection.{OpenConnection}
use Rattle.ffm_model.specs.declared.objects.PendingMessage.{PendingMessage}
use Rattle.ffm_model.specs.declared.objects.ActorPhase.{ActorPhase}
use Rattle.ffm_model.specs.declared.objects.ActorPhase.TheVariants.{Running, Ended, Panicked}
use Rattle.ffm_model.specs.Actors.{is_service_of}
use Rattle.ffm_model.specs.Panic.{clients_released, connections_closed, disconnection, messages_dropped, panicked_itself, without_client}
use Rattle.ffm_model.specs.State.{SpmState, has_handle, phase_of}
use Rattle.ffm_model.proofs.PanicLemmas.{effect-steps}
use Rattle.law_counting.specs.Objects.{Mark, ObjectsFit, PhaseFits, PhaseFitsAt, accepted_as, asked_by, asking_of, awaited_by, awaited_of, called_by, connection_marked, is_accepted, is_asking, is_awaited, is_joining, is_opening, message_marked, phase_for, same, wrongly_called, wrongly_shown}
use Rattle.law_counting.proofs.Panic.{count-append, count-filter, told-self, kept_mark, mark-kept}
use Rattle.law_counting.proofs.Parts.{fits_same, is_there, running-quiet, same_or_not}
use Rattle.law_counting.proofs.Reply.{asking_le}
use Rattle.law_counting.proofs.Rooms.{panic-fits}
use Rattle.law_manager.proofs.Lost.{closed-same, disconnections-uncalled, served-le, served-marks, served-rises}

-- the services are gone, and the partition is still there as a client
abbrev pub midway : System → SpmState → ℕ → SpmState
midway s b p = messages_dropped s p (clients_released s p (panicked_itself p b))

-- the end of the panic fits
end-fits : (s : System) (b : SpmState) (p : ℕ) → ObjectsFit s b → phase_of b p ≡ Running → ObjectsFit s (connections_closed p (midway s b p))
end-fits s b p fit running = subst (ObjectsFit s) (effect-steps s b p) (panic-fits s b p fit running)

-- a partition that runs awaits no answer
quiet : (s : System) (b : SpmState) (p : ℕ) → ObjectsFit s b → phase_of b p ≡ Running → awaited_by b.connections b.messages p ≡ 0
quiet s b p fit running = running-quiet (phase_of b p) _ _ (λ n. count_by (accepted_as p n) b.connections) running (fit.phases p)

-- in the middle it is Panicked
panicked-now : (s : System) (b : SpmState) (p : ℕ) → ObjectsFit s b → phase_of b p ≡ Running → get_or (midway s b p).phases p Ended ≡ Panicked
panicked-now s b p fit running = told-self s b p (is_there b.phases p (λ x. cc)) (quiet s b p fit running)

-- ---- the phases

abbrev FitsAt : SpmState → ℕ → Type 0
FitsAt b a = PhaseFitsAt b.phases b.connections b.messages a

itself-fits : (s : System) (b : SpmState) (p : ℕ) → ObjectsFit s b → phase_of b p ≡ Running → FitsAt (midway s b p) p
itself-fits s b p fit running =
    let left : List OpenConnection = (midway s b p).connections in
    let kept : List PendingMessage = (midway s b p).messages in
    let asks : count_by (asking_of p) left ≤ count_by (asking_of p) b.connections =
    served-le s p (asking_of p) (λ c unopened. omega (arith, ap bit (and-false (c.client.0 == p)))) b.connections in
    subst (λ (f : ActorPhase). PhaseFits f (awaited_by left kept p) (asked_by left kept p) (λ n. count_by (accepted_as p n) left)) (sym (panicked-now s b p fit running))
    (omega (arith, asks, quiet s b p fit running, count-le (asking_of p) (awaited_of p) (asking_le p) b.connections, count-filter-le (called_by p) (λ m. not (is_service_of s p m.service)) b.messages))

apart : (x p a : ℕ) → (a == p) ≡ false → (x == p) ≡ true → (x == a) ≡ false
apart x p a other own = grind arith

-- to the others the panic is as if the partition were gone as a client too
others-fit : (s : System) (b : SpmState) (p a : ℕ) → ObjectsFit s b → phase_of b p ≡ Running → (a == p) ≡ false → FitsAt (midway s b p) a
others-fit s b p a fit running other =
    let left : List OpenConnection = (midway s b p).connections in
    let kept : List PendingMessage = (midway s b p).messages in
    let end : SpmState = connections_closed p (midway s b p) in
    let called : count_by (called_by a) end.messages ≡ count_by (called_by a) kept =
    omega (arith, count-append (called_by a) kept (filter_map (disconnection p) left), disconnections-uncalled p a left) in
    let awaited : count_by (awaited_of a) end.connections ≡ count_by (awaited_of a) left =
    closed-same p (awaited_of a) (λ c own. ap (λ i. i && is_awaited c.phase) (apart c.client.0 p a other own)) left in
    let asking : count_by (asking_of a) end.connections ≡ count_by (asking_of a) left =
    closed-same p (asking_of a) (λ c own. ap (λ i. i && is_asking c.phase) (apart c.client.0 p a other own)) left in
    let accepted : (n : ℕ) → count_by (accepted_as a n) end.connections ≡ count_by (accepted_as a n) left =
    λ n. closed-same p (accepted_as a n) (λ c own. ap (λ i. (c.serial == n) && (i && is_accepted c.phase)) (apart c.client.0 p a other own) ∙ and-false (c.serial == n)) left in
    fits_same (get_or end.phases a Ended) (awaited_by end.connections end.messages a) (awaited_by left kept a) (asked_by end.connections end.messages a) (asked_by left kept a)
    (λ n. count_by (accepted_as a n) end.connections) (λ n. count_by (accepted_as a n) left)
    (omega (arith, called, awaited)) (omega (arith, called, asking)) (λ n. sym (accepted n)) ((end-fits s b p fit running).phases a)

-- ---- what is shown

abbrev own_shown : ℕ → List ActorPhase → OpenConnection → Bool
own_shown p phases c = (c.client.0 == p) && wrongly_shown phases c

abbrev other_shown : ℕ → List ActorPhase → OpenConnection → Bool
other_shown p phases c = not (c.client.0 == p) && wrongly_shown phases c

shown-parted : (p : ℕ) (phases : List ActorPhase) (cs : List OpenConnection) → count_by (wrongly_shown phases) cs ≡ count_by (own_shown p phases) cs + count_by (other_shown p phases) cs
shown-parted p phases [] = refl
shown-parted p phases (c ∷ cs) =
    let parted : (k w : Bool) → bit w ≡ bit (k && w) + bit (not k && w) = elim [ true ↦ λ w. omega arith | false ↦ λ w. omega arith ] in
    omega (
      arith,
      parted (c.client.0 == p) (wrongly_shown phases c),
      shown-parted p phases cs,
      count-cons (wrongly_shown phases) c cs,
      count-cons (own_shown p phases) c cs,
      count-cons (other_shown p phases) c cs,
    )

-- the partition is told no handle, before or now
own_same : (s : System) (b : SpmState) (p : ℕ) (c : OpenConnection) → ObjectsFit s b → phase_of b p ≡ Running → own_shown p (midway s b p).phases c ≡ own_shown p b.phases c
own_same s b p c fit running =
    let told : List ActorPhase = (midway s b p).phases in
    let wrong : ActorPhase → Bool = λ f. not (same (is_none c.handle) (is_opening c.phase || is_joining f c.serial)) in
    let go : (k : Bool) → (c.client.0 == p) ≡ k → (k && wrong (get_or told c.client.0 Ended)) ≡ (k && wrong (phase_of b c.client.0)) =
    elim [
      | true ↦ λ e.
          let own : c.client.0 ≡ p = eqb-true c.client.0 p e in
          let now : get_or told c.client.0 Ended ≡ Panicked = ap (λ a. get_or told a Ended) own ∙ panicked-now s b p fit running in
          let before : phase_of b c.client.0 ≡ Running = ap (phase_of b) own ∙ running in
          ap wrong now ∙ sym (ap wrong before)
      | false ↦ λ e. refl
    ] in
    go (c.client.0 == p) refl

shown-midway : (s : System) (b : SpmState) (p : ℕ) → ObjectsFit s b → phase_of b p ≡ Running → count_by (wrongly_shown (midway s b p).phases) (midway s b p).connections ≡ 0
shown-midway s b p fit running =
    let told : List ActorPhase = (midway s b p).phases in
    let left : List OpenConnection = (midway s b p).connections in
    let end : List OpenConnection = filter_map (without_client p) left in
    let own : count_by (own_shown p b.phases) left ≤ count_by (own_shown p b.phases) b.connections =
    served-le s p (own_shown p b.phases)
    (λ c unopened. omega (arith, ap (λ o. bit ((c.client.0 == p) && not (same (is_none c.handle) (o || is_joining (phase_of b c.client.0) c.serial)))) unopened)) b.connections in
    omega (
      arith,
      shown-parted p told left,
      count-ext (own_shown p told) (own_shown p b.phases) (λ c. own_same s b p c fit running) left,
      own,
      count-le (own_shown p b.phases) (wrongly_shown b.phases) (λ c. both-le-right (c.client.0 == p) (wrongly_shown b.phases c)) b.connections,
      fit.shown,
      closed-same p (other_shown p told) (λ c e. ap (λ k. not k && wrongly_shown told c) e) left,
      count-le (other_shown p told) (wrongly_shown told) (λ c. both-le-right (not (c.client.0 == p)) (wrongly_shown told c)) end,
      (end-fits s b p fit running).shown,
    )

-- ---- messages and handles

paired-midway : (s : System) (b : SpmState) (p : ℕ) (t : Mark) → ObjectsFit s b → count_by (message_marked t) (midway s b p).messages ≡ count_by (connection_marked t) (midway s b p).connections
paired-midway s b p t fit =
    omega (
      arith,
      count-filter (message_marked t) (λ m. not (is_service_of s p m.service)) b.messages,
      count-ext (λ m. not (is_service_of s p m.service) && message_marked t m) (message_marked (kept_mark s p t))
          (λ m. mark-kept (is_service_of s p m.service) (λ n. t n m.client.0 m.service (phase_for m.kind)) m.connection) b.messages,
      fit.paired (kept_mark s p t),
      served-marks s p t b.connections,
    )

-- ---- all of it

pub midway-fits : (s : System) (b : SpmState) (p : ℕ) → ObjectsFit s b → phase_of b p ≡ Running → ObjectsFit s (midway s b p)
midway-fits s b p fit running =
    let kept : PendingMessage → Bool = λ m. not (is_service_of s p m.service) in
    record {
      budgets = λ a v. omega (arith, fit.budgets a v, served-le s p (λ c. (c.client.0 == a) && (c.service == v)) (λ c unopened. omega arith) b.connections);
      paired = λ t. paired-midway s b p t fit;
      called = omega (arith, fit.called, count-filter-le (wrongly_called s) kept b.messages);
      rising = served-rises s p 0 b.connections_made b.connections fit.rising;
      phases = λ a. same_or_not a p (FitsAt (midway s b p) a) (λ e. subst (FitsAt (midway s b p)) (sym e) (itself-fits s b p fit running)) (λ e. others-fit s b p a fit running e);
      shown = shown-midway s b p fit running;
      handles = λ h. omega (
        arith,
        fit.handles h,
        served-le s p (λ c. has_handle c.handle h) (λ c unopened. omega arith) b.connections,
        count-filter-le (λ m. has_handle m.handle h) kept b.messages,
      );
    }
