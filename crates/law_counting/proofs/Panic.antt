-- A panic keeps the balance.
use Rattle.std.proofs.Common.{ℕ, zero, suc, ◌≡◌, ◌<◌, ◌≤◌, ◌+◌, ◌==◌, Bool, true, false, cond, not, ◌&&◌, ◌||◌, List, [], ◌∷◌, ◌++◌, length, get_or, arith, ◌∙◌, ap, sym, refl, subst}
use Rattle.std.specs.Prelude.{count_by, filter, slice_set, is_none, negsuc, Option, Some, None, if◌then◌else◌}
use Rattle.std.specs.Option.{option_map_or}
use Rattle.ffm_model.specs.declared.constants.TheConstants.{PSA_ERROR_COMMUNICATION_FAILURE}
use Rattle.ffm_model.specs.declared.objects.PendingMessage.{PendingMessage}
use Rattle.std.proofs.lemmas.List.Sums.{sum_by-append}
use Rattle.std.proofs.lemmas.Bool.{eqb-true}
use Rattle.law_lists.proofs.Counts.{bit, both-le-left, both-le-right, count-cons, count-ext, count-filter-le, count-le}
use Rattle.ffm_model.specs.declared.system.System.{System}
use Rattle.ffm_model.specs.declared.machine.Handle.{Handle}
use Rattle.ffm_model.specs.declared.objects.OpenConnection.{OpenConnection}
use Rattle.ffm_model.specs.declared.objects.ConnPhase.{ConnPhase}
use Rattle.ffm_model.specs.declared.objects.ConnPhase.TheVariants.{Opening, Idle, Busy, Error, Closing, Dead}
use Rattle.ffm_model.specs.declared.objects.ActorPhase.{ActorPhase}
use Rattle.ffm_model.specs.declared.objects.ActorPhase.TheVariants.{Blocked, Ready, Connected, Ended, Panicked}
use Rattle.ffm_model.specs.declared.machine.Outcome.{Outcome}
use Rattle.ffm_model.specs.declared.machine.Outcome.TheVariants.{Value, Done}
use Rattle.ffm_model.specs.Actors.{is_service_of}
use Rattle.ffm_model.specs.Signals.{is_blocked}
use Rattle.law_counting.specs.Objects.{same}
use Rattle.ffm_model.specs.State.{Rises, SpmState, phase_of, has_handle}
use Rattle.law_counting.proofs.Balance.{Balanced}
use Rattle.law_counting.specs.Objects.{PhaseFits, PhaseFitsAt, Mark, phase_for, awaited_by, asked_by, called_by, wrongly_called, is_joining, is_opening, is_awaited, is_asking, is_accepted, awaited_of, asking_of, accepted_as, wrongly_shown, message_marked, connection_marked}
use Rattle.ffm_model.specs.Panic.{is_dead, is_lost_request, callers_answered, client_answered, clients_answered, panic_effect, disconnect_message}
use Rattle.ffm_model.proofs.SerialLemmas.{rises-weaker, serial-once}
use Rattle.law_counting.proofs.Losses.{survives, left_as, all_left, disconnect_as, all_disconnects, after_panic, after_panic-is}
use Rattle.law_counting.proofs.Parts.{is_plain, same_or_not, is_there, phase_same, phase_other, off_left, off_right, on_left, flipped, off_from}
use Rattle.law_counting.proofs.Updates.{in_phase}
use Rattle.law_counting.proofs.Reply.{awaited_client, blocked-one, panicked-none, asking_le}

pub count-append : {X : Type 0} (q : X → Bool) (xs ys : List X) → count_by q (xs ++ ys) ≡ count_by q xs + count_by q ys
count-append q xs ys = sum_by-append (λ x. cond (q x) 1 0) xs ys

-- what is left is nothing, or the connection in some phase
pub left_cases : (c : OpenConnection) (P : List OpenConnection → Type 0) → P [] → ((ph : ConnPhase) → P (in_phase c ph ∷ [])) → (o k : Bool) (ph : ConnPhase) → P (left_as o k ph c)
left_cases c P none one o k ph =
    elim o as (λ (o : Bool). P (left_as o k ph c)) [
      | true ↦ elim (survives ph && not k) as (λ (x : Bool). P (if x then in_phase c Dead ∷ [] else [])) [ true ↦ one Dead | false ↦ none ]
      | false ↦ elim k as (λ (k : Bool). P (left_as false k ph c)) [
        | true ↦ elim (is_dead ph) as (λ (x : Bool). P (if x then [] else in_phase c Closing ∷ [])) [ true ↦ none | false ↦ one Closing ]
        | false ↦ one ph
      ]
    ]

-- a test that does not read the phase counts no more than before
pub left-le : (s : System) (p : ℕ) (q : OpenConnection → Bool) → ((c : OpenConnection) (ph : ConnPhase) → q (in_phase c ph) ≡ q c) → (cs : List OpenConnection)
    → count_by q (all_left s p cs) ≤ count_by q cs
left-le s p q blind [] = omega arith
left-le s p q blind (c ∷ cs) =
    let here : count_by q (left_as (is_service_of s p c.service) (c.client.0 == p) c.phase c) ≤ bit (q c) =
    left_cases c (λ (xs : List OpenConnection). count_by q xs ≤ bit (q c)) (omega arith) (λ ph. omega (arith, count-cons q (in_phase c ph) [], ap bit (blind c ph)))
    (is_service_of s p c.service) (c.client.0 == p) c.phase in
    omega (arith, here, left-le s p q blind cs, count-append q (left_as (is_service_of s p c.service) (c.client.0 == p) c.phase c) (all_left s p cs), count-cons q c cs)

rising-left : (s : System) (p lo hi : ℕ) (cs : List OpenConnection) → Rises lo cs hi → Rises lo (all_left s p cs) hi
rising-left s p lo hi [] h = h
rising-left s p lo hi (c ∷ cs) h =
    let rest : Rises (c.serial + 1) (all_left s p cs) hi = rising-left s p (c.serial + 1) hi cs h.1 in
    left_cases c (λ (xs : List OpenConnection). Rises lo (xs ++ all_left s p cs) hi)
    (rises-weaker (c.serial + 1) lo hi (all_left s p cs) (omega (arith, h.0)) rest) (λ ph. (h.0, rest)) (is_service_of s p c.service) (c.client.0 == p) c.phase

-- messages and awaited connections
abbrev pub kept_mark : System → ℕ → Mark → Mark
kept_mark s p t n a v ph = not (is_service_of s p v) && t n a v ph

pub mark-kept : (o : Bool) (f : ℕ → Bool) (k : Option ℕ) → (not o && option_map_or f k false) ≡ option_map_or (λ n. not o && f n) k false
mark-kept o f (Some n) = refl
mark-kept true f None = refl
mark-kept false f None = refl

mark-step : (t : Mark) (c : OpenConnection) (o k : Bool) (ph : ConnPhase) → (k && is_awaited ph) ≡ false
    → count_by (connection_marked t) (left_as o k ph c) ≡ bit (is_awaited ph && (not o && t c.serial c.client.0 c.service ph)) + count_by (message_marked t) (disconnect_as o k ph c)
mark-step t c o true Opening e = cc
mark-step t c o true Busy e = cc
mark-step t c o true Closing e = cc
mark-step t c false true Dead e = refl
mark-step t c false true _ e = omega (arith, count-cons (connection_marked t) (in_phase c Closing) [], count-cons (message_marked t) (disconnect_message c) [])
mark-step t c true false Opening e = refl
mark-step t c true _ _ e = refl
mark-step t c false false Idle e = refl
mark-step t c false false Error e = refl
mark-step t c false false Dead e = refl
mark-step t c false false ph e = omega (arith, count-cons (connection_marked t) (in_phase c ph) [])

marks-left : (s : System) (p : ℕ) (t : Mark) (cs : List OpenConnection) → count_by (awaited_of p) cs ≡ 0
    → count_by (connection_marked t) (all_left s p cs) ≡ count_by (connection_marked (kept_mark s p t)) cs + count_by (message_marked t) (all_disconnects s p cs)
marks-left s p t [] h = refl
marks-left s p t (c ∷ cs) h =
    let o : Bool = is_service_of s p c.service in
    let k : Bool = c.client.0 == p in
    let own : bit (awaited_of p c) ≡ 0 = omega (arith, count-cons (awaited_of p) c cs) in
    let rest : count_by (awaited_of p) cs ≡ 0 = omega (arith, count-cons (awaited_of p) c cs) in
    omega (
      arith,
      mark-step t c o k c.phase (off_from _ own),
      marks-left s p t cs rest,
      count-append (connection_marked t) (left_as o k c.phase c) (all_left s p cs),
      count-append (message_marked t) (disconnect_as o k c.phase c) (all_disconnects s p cs),
      count-cons (connection_marked (kept_mark s p t)) c cs,
    )

pub count-filter : {X : Type 0} (q r : X → Bool) (xs : List X) → count_by q (filter r xs) ≡ count_by (λ x. r x && q x) xs
count-filter q r [] = refl
count-filter {X = X} q r (x ∷ xs) =
    let rest : List X = filter r xs in
    let go : (b : Bool) → count_by q (cond b (x ∷ rest) rest) ≡ bit (b && q x) + count_by (λ y. r y && q y) xs =
    elim [ true ↦ omega (arith, count-cons q x rest, count-filter q r xs) | false ↦ omega (arith, count-filter q r xs) ] in
    omega (arith, count-cons (λ y. r y && q y) x xs, go (r x))

-- a test that no disconnection passes
no-disconnects : (s : System) (p : ℕ) (q : PendingMessage → Bool) → ((c : OpenConnection) → q (disconnect_message c) ≡ false) → (cs : List OpenConnection) → count_by q (all_disconnects s p cs) ≡ 0
no-disconnects s p q off [] = refl
no-disconnects s p q off (c ∷ cs) =
    let here : (o k : Bool) (ph : ConnPhase) → count_by q (disconnect_as o k ph c) ≡ 0 =
    λ o k ph. elim o as (λ (o : Bool). count_by q (disconnect_as o k ph c) ≡ 0) [
      | true ↦ refl
      | false ↦ elim k as (λ (k : Bool). count_by q (disconnect_as false k ph c) ≡ 0) [
        | true ↦ elim (is_dead ph) as (λ (d : Bool). count_by q (if d then [] else disconnect_message c ∷ []) ≡ 0) [ true ↦ refl | false ↦ omega (arith, count-cons q (disconnect_message c) [], ap bit (off c)) ]
        | false ↦ refl
      ]
    ] in
    omega (
      arith,
      here (is_service_of s p c.service) (c.client.0 == p) c.phase,
      no-disconnects s p q off cs,
      count-append q (disconnect_as (is_service_of s p c.service) (c.client.0 == p) c.phase c) (all_disconnects s p cs),
    )

-- ---- requests by stateless handles

-- the actor's requests that are lost
abbrev pub lost_call : System → ℕ → ℕ → PendingMessage → Bool
lost_call s p a m = is_lost_request s p m && (m.client.0 == a)

lost_called : (s : System) (p a : ℕ) (m : PendingMessage) → bit (lost_call s p a m) ≤ bit (called_by a m)
lost_called s p a m =
    let go : (x o i : Bool) → bit ((x && o) && i) ≤ bit (x && i) = elim [ true ↦ elim [ true ↦ λ i. omega arith | false ↦ λ i. omega arith ] | false ↦ λ o i. omega arith ] in
    go (is_none m.connection) (is_service_of s p m.service) (m.client.0 == a)

-- the others stay
calls-left : (s : System) (p a : ℕ) (ms : List PendingMessage) → count_by (called_by a) (filter (λ m. not (is_service_of s p m.service)) ms) + count_by (lost_call s p a) ms ≡ count_by (called_by a) ms
calls-left s p a [] = refl
calls-left s p a (m ∷ ms) =
    let rest : List PendingMessage = filter (λ n. not (is_service_of s p n.service)) ms in
    let step : (x o i : Bool) → (if not o then bit (x && i) else 0) + bit ((x && o) && i) ≡ bit (x && i) =
    elim [ true ↦ elim [ true ↦ λ i. omega arith | false ↦ λ i. omega arith ] | false ↦ elim [ true ↦ λ i. refl | false ↦ λ i. refl ] ] in
    let go : (o : Bool) → count_by (called_by a) (cond (not o) (m ∷ rest) rest) ≡ (if not o then bit (called_by a m) else 0) + count_by (called_by a) rest =
    elim [ true ↦ omega arith | false ↦ count-cons (called_by a) m rest ] in
    omega (
      arith,
      go (is_service_of s p m.service),
      step (is_none m.connection) (is_service_of s p m.service) (m.client.0 == a),
      calls-left s p a ms,
      count-cons (called_by a) m ms,
      count-cons (lost_call s p a) m ms,
    )

calls-after : (s : System) (p a : ℕ) (ms : List PendingMessage) (cs : List OpenConnection)
    → count_by (called_by a) (filter (λ m. not (is_service_of s p m.service)) ms ++ all_disconnects s p cs) + count_by (lost_call s p a) ms ≡ count_by (called_by a) ms
calls-after s p a ms cs =
    omega (
      arith,
      count-append (called_by a) (filter (λ m. not (is_service_of s p m.service)) ms) (all_disconnects s p cs),
      no-disconnects s p (called_by a) (λ c. refl) cs,
      calls-left s p a ms,
    )

abbrev lost_answer : ActorPhase
lost_answer = Ready (Value PSA_ERROR_COMMUNICATION_FAILURE)

caller-step : (o i : Bool) (ps : List ActorPhase) (x a : ℕ) → (x == a) ≡ i → bit (o && i) ≡ 0 → get_or (if o then slice_set ps x lost_answer else ps) a Ended ≡ get_or ps a Ended
caller-step false i ps x a e z = refl
caller-step true false ps x a e z = phase_other ps x a lost_answer (flipped x a e)
caller-step true true ps x a e z = absurd (omega (arith, z))

callers-same : (s : System) (p a : ℕ) (ms : List PendingMessage) (ps : List ActorPhase) → count_by (lost_call s p a) ms ≡ 0 → get_or (callers_answered s p ms ps) a Ended ≡ get_or ps a Ended
callers-same s p a [] ps h = refl
callers-same s p a (m ∷ ms) ps h =
    callers-same s p a ms _ (omega (arith, h, count-cons (lost_call s p a) m ms))
    ∙ caller-step (is_lost_request s p m) (m.client.0 == a) ps m.client.0 a refl (omega (arith, h, count-cons (lost_call s p a) m ms))

-- one that was told stays so
callers-stay : (s : System) (p a : ℕ) (ms : List PendingMessage) (ps : List ActorPhase) → get_or ps a Ended ≡ lost_answer → get_or (callers_answered s p ms ps) a Ended ≡ lost_answer
callers-stay s p a [] ps h = h
callers-stay s p a (m ∷ ms) ps h =
    let go : (o i : Bool) → (m.client.0 == a) ≡ i → get_or (if o then slice_set ps m.client.0 lost_answer else ps) a Ended ≡ lost_answer =
    elim [
      | true ↦ elim [
        | true ↦ λ e. let mine : m.client.0 ≡ a = eqb-true m.client.0 a e in ap (λ n. get_or (slice_set ps n lost_answer) a Ended) mine ∙ phase_same ps a lost_answer (is_there ps a (λ z. cc))
        | false ↦ λ e. phase_other ps m.client.0 a lost_answer (flipped m.client.0 a e) ∙ h
      ]
      | false ↦ λ i e. h
    ] in
    callers-stay s p a ms _ (go (is_lost_request s p m) (m.client.0 == a) refl)

-- a Blocked caller is told at once
callers-told : (s : System) (p a : ℕ) (ms : List PendingMessage) (ps : List ActorPhase) → get_or ps a Ended ≡ Blocked → 1 ≤ count_by (lost_call s p a) ms → get_or (callers_answered s p ms ps) a Ended ≡ lost_answer
callers-told s p a [] ps b h = absurd (omega (arith, h))
callers-told s p a (m ∷ ms) ps b h =
    let go : (o i : Bool) → (m.client.0 == a) ≡ i → 1 ≤ bit (o && i) + count_by (lost_call s p a) ms → get_or (callers_answered s p ms (if o then slice_set ps m.client.0 lost_answer else ps)) a Ended ≡ lost_answer =
    elim [
      | true ↦ elim [
        | true ↦ λ e n.
            let mine : m.client.0 ≡ a = eqb-true m.client.0 a e in
            callers-stay s p a ms _ (ap (λ k. get_or (slice_set ps k lost_answer) a Ended) mine ∙ phase_same ps a lost_answer (is_there ps a (λ z. cc)))
        | false ↦ λ e n. callers-told s p a ms _ (phase_other ps m.client.0 a lost_answer (flipped m.client.0 a e) ∙ b) (omega (arith, n))
      ]
      | false ↦ λ i e n. callers-told s p a ms ps b (omega (arith, n))
    ] in
    go (is_lost_request s p m) (m.client.0 == a) refl (omega (arith, h, count-cons (lost_call s p a) m ms))

-- the same, naming the phase that is left
left_cases3 : (c : OpenConnection) (P : List OpenConnection → Type 0) (o k : Bool) (ph : ConnPhase) → P [] → P (in_phase c Dead ∷ []) → P (in_phase c Closing ∷ []) → P (in_phase c ph ∷ []) → P (left_as o k ph c)
left_cases3 c P o k ph none dead closing kept =
    elim o as (λ (o : Bool). P (left_as o k ph c)) [
      | true ↦ elim (survives ph && not k) as (λ (x : Bool). P (if x then in_phase c Dead ∷ [] else [])) [ true ↦ dead | false ↦ none ]
      | false ↦ elim k as (λ (k : Bool). P (left_as false k ph c)) [
        | true ↦ elim (is_dead ph) as (λ (x : Bool). P (if x then [] else in_phase c Closing ∷ [])) [ true ↦ none | false ↦ closing ]
        | false ↦ kept
      ]
    ]

asking-left : (s : System) (p a : ℕ) (cs : List OpenConnection) → count_by (asking_of a) (all_left s p cs) ≤ count_by (asking_of a) cs
asking-left s p a [] = omega arith
asking-left s p a (c ∷ cs) =
    let i : Bool = c.client.0 == a in
    let here : count_by (asking_of a) (left_as (is_service_of s p c.service) (c.client.0 == p) c.phase c) ≤ bit (asking_of a c) =
    left_cases3 c (λ (xs : List OpenConnection). count_by (asking_of a) xs ≤ bit (asking_of a c)) (is_service_of s p c.service) (c.client.0 == p) c.phase
    (omega arith)
    (omega (arith, count-cons (asking_of a) (in_phase c Dead) [], off_right (c.client.0 == a) false refl))
    (omega (arith, count-cons (asking_of a) (in_phase c Closing) [], off_right (c.client.0 == a) false refl))
    (omega (arith, count-cons (asking_of a) c [])) in
    omega (arith, here, asking-left s p a cs, count-append (asking_of a) (left_as (is_service_of s p c.service) (c.client.0 == p) c.phase c) (all_left s p cs), count-cons (asking_of a) c cs)

-- the awaited connections of an actor that are lost
abbrev pub lost_of : System → ℕ → ℕ → OpenConnection → Bool
lost_of s p a c = is_service_of s p c.service && awaited_of a c

awaited-step : (a : ℕ) (c : OpenConnection) (o k i : Bool) (ph : ConnPhase) → (c.client.0 == a) ≡ i → (k && i) ≡ false
    → count_by (awaited_of a) (left_as o k ph c) + bit (o && (i && is_awaited ph)) ≡ bit (i && is_awaited ph)
awaited-step a c o k false ph e x =
    let none : count_by (awaited_of a) (left_as o k ph c) ≡ 0 =
    left_cases c (λ (xs : List OpenConnection). count_by (awaited_of a) xs ≡ 0) refl (λ z. omega (arith, count-cons (awaited_of a) (in_phase c z) [], off_left (c.client.0 == a) (is_awaited z) e)) o k ph in
    omega (arith, none, off_right o false refl)
awaited-step a c o true true ph e x = cc
awaited-step a c true false true Opening e x = refl
awaited-step a c true false true Closing e x = refl
awaited-step a c true false true _ e x = omega (arith, count-cons (awaited_of a) (in_phase c Dead) [], off_right (c.client.0 == a) false refl)
awaited-step a c false false true ph e x = omega (arith, count-cons (awaited_of a) (in_phase c ph) [], on_left (c.client.0 == a) (is_awaited ph) e)

apart_ids : (x p a : ℕ) → (a == p) ≡ false → ((x == p) && (x == a)) ≡ false
apart_ids x p a e =
    let go : (b d : Bool) → (x == p) ≡ b → (x == a) ≡ d → (b && d) ≡ false =
    elim [
      | true ↦ elim [
        | true ↦ λ f g. let y : x ≡ p = eqb-true x p f in let z : x ≡ a = eqb-true x a g in
            let w : (a == p) ≡ true = ap (λ n. n == p) (sym z) ∙ f in cc
        | false ↦ λ f g. refl
      ]
      | false ↦ λ d f g. refl
    ] in
    go _ _ refl refl

awaited-left : (s : System) (p a : ℕ) (cs : List OpenConnection) → (a == p) ≡ false → count_by (awaited_of a) (all_left s p cs) + count_by (lost_of s p a) cs ≡ count_by (awaited_of a) cs
awaited-left s p a [] e = refl
awaited-left s p a (c ∷ cs) e =
    omega (
      arith,
      awaited-step a c (is_service_of s p c.service) (c.client.0 == p) (c.client.0 == a) c.phase refl (apart_ids c.client.0 p a e),
      awaited-left s p a cs e,
      count-append (awaited_of a) (left_as (is_service_of s p c.service) (c.client.0 == p) c.phase c) (all_left s p cs),
      count-cons (awaited_of a) c cs,
      count-cons (lost_of s p a) c cs,
    )

accepted-step : (a n : ℕ) (c : OpenConnection) (o k i : Bool) (ph : ConnPhase) → (c.client.0 == a) ≡ i → (k && i) ≡ false
    → bit ((c.serial == n) && (i && is_accepted ph)) ≤ count_by (accepted_as a n) (left_as o k ph c)
accepted-step a n c o k false ph e x = omega (arith, off_right (c.serial == n) false refl)
accepted-step a n c o true true ph e x = cc
accepted-step a n c true false true Idle e x = omega (arith, count-cons (accepted_as a n) (in_phase c Dead) [], ap (λ b. bit ((c.serial == n) && (b && true))) e)
accepted-step a n c true false true Dead e x = omega (arith, count-cons (accepted_as a n) (in_phase c Dead) [], ap (λ b. bit ((c.serial == n) && (b && true))) e)
accepted-step a n c true false true _ e x = omega (arith, off_right (c.serial == n) false refl)
accepted-step a n c false false true ph e x = omega (arith, count-cons (accepted_as a n) (in_phase c ph) [], ap (λ b. bit ((c.serial == n) && (b && is_accepted ph))) e)

accepted-left : (s : System) (p a n : ℕ) (cs : List OpenConnection) → (a == p) ≡ false → count_by (accepted_as a n) cs ≤ count_by (accepted_as a n) (all_left s p cs)
accepted-left s p a n [] e = omega arith
accepted-left s p a n (c ∷ cs) e =
    omega (
      arith,
      accepted-step a n c (is_service_of s p c.service) (c.client.0 == p) (c.client.0 == a) c.phase refl (apart_ids c.client.0 p a e),
      accepted-left s p a n cs e,
      count-append (accepted_as a n) (left_as (is_service_of s p c.service) (c.client.0 == p) c.phase c) (all_left s p cs),
      count-cons (accepted_as a n) c cs,
    )

-- what the clients are told
told-other : (ph : ConnPhase) (ps : List ActorPhase) (x a : ℕ) → (x == a) ≡ false → get_or (client_answered ph ps x) a Ended ≡ get_or ps a Ended
told-other Opening ps x a e = phase_other ps x a (Ready (Value (negsuc 129))) (flipped x a e)
told-other Busy ps x a e = phase_other ps x a (Ready (Value (negsuc 144))) (flipped x a e)
told-other Closing ps x a e =
    elim (is_blocked (get_or ps x Ended)) as (λ (b : Bool). get_or (if b then slice_set ps x (Ready Done) else ps) a Ended ≡ get_or ps a Ended)
    [ true ↦ phase_other ps x a (Ready Done) (flipped x a e) | false ↦ refl ]
told-other _ ps x a e = refl

told-quiet : (ph : ConnPhase) (ps : List ActorPhase) (x a : ℕ) → bit (is_awaited ph) ≡ 0 → get_or (client_answered ph ps x) a Ended ≡ get_or ps a Ended
told-quiet Idle ps x a e = refl
told-quiet Error ps x a e = refl
told-quiet Dead ps x a e = refl
told-quiet _ ps x a e = absurd (omega (arith, e))

told-step : (o i : Bool) (ph : ConnPhase) (ps : List ActorPhase) (x a : ℕ) → (x == a) ≡ i → bit (o && (i && is_awaited ph)) ≡ 0
    → get_or (if o then client_answered ph ps x else ps) a Ended ≡ get_or ps a Ended
told-step false i ph ps x a e z = refl
told-step true false ph ps x a e z = told-other ph ps x a e
told-step true true ph ps x a e z = told-quiet ph ps x a z

pub told-same : (s : System) (p a : ℕ) (cs : List OpenConnection) (ps : List ActorPhase) → count_by (lost_of s p a) cs ≡ 0 → get_or (clients_answered s p cs ps) a Ended ≡ get_or ps a Ended
told-same s p a [] ps h = refl
told-same s p a (c ∷ cs) ps h =
    told-same s p a cs _ (omega (arith, count-cons (lost_of s p a) c cs))
    ∙ told-step (is_service_of s p c.service) (c.client.0 == a) c.phase ps c.client.0 a refl (omega (arith, count-cons (lost_of s p a) c cs))

-- a Blocked client is told at once
told-lost : (ph : ConnPhase) (ps : List ActorPhase) (a : ℕ) → is_awaited ph ≡ true → get_or ps a Ended ≡ Blocked → (o : Outcome) × (get_or (client_answered ph ps a) a Ended ≡ Ready o) × (is_plain o ≡ true)
told-lost Opening ps a e b = (Value (negsuc 129), phase_same ps a (Ready (Value (negsuc 129))) (is_there ps a (λ z. cc)), refl)
told-lost Busy ps a e b = (Value (negsuc 144), phase_same ps a (Ready (Value (negsuc 144))) (is_there ps a (λ z. cc)), refl)
told-lost Closing ps a e b =
    (Done, ap (λ (q : ActorPhase). get_or (if is_blocked q then slice_set ps a (Ready Done) else ps) a Ended) b ∙ phase_same ps a (Ready Done) (is_there ps a (λ z. cc)), refl)
told-lost _ ps a e b = cc

told-ready : (s : System) (p a : ℕ) (cs : List OpenConnection) (ps : List ActorPhase) → get_or ps a Ended ≡ Blocked → count_by (lost_of s p a) cs ≡ 1
    → (o : Outcome) × (get_or (clients_answered s p cs ps) a Ended ≡ Ready o) × (is_plain o ≡ true)
told-ready s p a [] ps b h = absurd (omega (arith, h))
told-ready s p a (c ∷ cs) ps b h =
    let go : (o i w : Bool) → is_service_of s p c.service ≡ o → (c.client.0 == a) ≡ i → is_awaited c.phase ≡ w → bit (o && (i && w)) + count_by (lost_of s p a) cs ≡ 1
    → (r : Outcome) × (get_or (clients_answered s p cs (if o then client_answered c.phase ps c.client.0 else ps)) a Ended ≡ Ready r) × (is_plain r ≡ true) =
    elim [
      | true ↦ elim [
        | true ↦ elim [
          | true ↦ λ x y z n.
              let mine : c.client.0 ≡ a = eqb-true c.client.0 a y in
              let now = told-lost c.phase ps a z b in
              (now.0, told-same s p a cs _ (omega arith) ∙ ap (λ k. get_or (client_answered c.phase ps k) a Ended) mine ∙ now.1, now.2)
          | false ↦ λ x y z n. told-ready s p a cs _ (told-quiet c.phase ps c.client.0 a (ap bit z) ∙ b) (omega arith)
        ]
        | false ↦ λ w x y z n. told-ready s p a cs _ (told-other c.phase ps c.client.0 a y ∙ b) (omega arith)
      ]
      | false ↦ λ i w x y z n. told-ready s p a cs ps b (omega arith)
    ] in
    go _ _ _ refl refl refl (sym (count-cons (lost_of s p a) c cs) ∙ h)

abbrev lost_asking : System → ℕ → ℕ → OpenConnection → Bool
lost_asking s p a c = is_service_of s p c.service && asking_of a c

told-panicked-step : (o i : Bool) (ph : ConnPhase) (ps : List ActorPhase) (x a : ℕ) → (x == a) ≡ i → bit (o && (i && is_asking ph)) ≡ 0 → get_or ps a Ended ≡ Panicked
    → get_or (if o then client_answered ph ps x else ps) a Ended ≡ Panicked
told-panicked-step false i ph ps x a e z h = h
told-panicked-step true false ph ps x a e z h = told-other ph ps x a e ∙ h
told-panicked-step true true Opening ps x a e z h = absurd (omega (arith, z))
told-panicked-step true true Busy ps x a e z h = absurd (omega (arith, z))
told-panicked-step true true Closing ps x a e z h =
    let it : get_or ps x Ended ≡ Panicked = ap (λ n. get_or ps n Ended) (eqb-true x a e) ∙ h in
    ap (λ (q : ActorPhase). get_or (if is_blocked q then slice_set ps x (Ready Done) else ps) a Ended) it ∙ h
told-panicked-step true true _ ps x a e z h = h

told-panicked : (s : System) (p a : ℕ) (cs : List OpenConnection) (ps : List ActorPhase) → get_or ps a Ended ≡ Panicked → count_by (lost_asking s p a) cs ≡ 0
    → get_or (clients_answered s p cs ps) a Ended ≡ Panicked
told-panicked s p a [] ps h z = h
told-panicked s p a (c ∷ cs) ps h z =
    told-panicked s p a cs _ (told-panicked-step (is_service_of s p c.service) (c.client.0 == a) c.phase ps c.client.0 a refl (omega (arith, count-cons (lost_asking s p a) c cs)) h)
    (omega (arith, count-cons (lost_asking s p a) c cs))

-- the phases after the panic of an actor, and how many answers another one loses by it
abbrev pub phases_told : System → SpmState → ℕ → List ActorPhase
phases_told s b p = callers_answered s p b.messages (clients_answered s p b.connections (slice_set b.phases p Panicked))

abbrev pub lost_by : System → SpmState → ℕ → ℕ → ℕ
lost_by s b p a = count_by (lost_of s p a) b.connections + count_by (lost_call s p a) b.messages

lost-few : (s : System) (b : SpmState) (p a : ℕ) → lost_by s b p a ≤ awaited_by b.connections b.messages a
lost-few s b p a =
    omega (
      arith,
      count-le (lost_of s p a) (awaited_of a) (λ c. both-le-right (is_service_of s p c.service) (awaited_of a c)) b.connections,
      count-le (lost_call s p a) (called_by a) (lost_called s p a) b.messages,
    )

told-none : (s : System) (b : SpmState) (p a : ℕ) → lost_by s b p a ≡ 0 → get_or (phases_told s b p) a Ended ≡ get_or (slice_set b.phases p Panicked) a Ended
told-none s b p a none =
    let ps : List ActorPhase = slice_set b.phases p Panicked in
    callers-same s p a b.messages (clients_answered s p b.connections ps) (omega (arith, none)) ∙ told-same s p a b.connections ps (omega (arith, none))

-- its own, where it awaits nothing
pub told-self : (s : System) (b : SpmState) (p : ℕ) → p < length b.phases → awaited_by b.connections b.messages p ≡ 0 → get_or (phases_told s b p) p Ended ≡ Panicked
told-self s b p inside quiet = told-none s b p p (omega (arith, quiet, lost-few s b p p)) ∙ phase_same b.phases p Panicked inside

-- an actor's phase before and after the panic of another
pub phase_after : (s : System) (limit : Handle → ℕ) (b : SpmState) (p a : ℕ) (P : Type 0) → Balanced s limit b → (a == p) ≡ false
    → (lost_by s b p a ≡ 0 → get_or (phases_told s b p) a Ended ≡ phase_of b a → P)
    → ((o : Outcome) → phase_of b a ≡ Blocked → lost_by s b p a ≡ 1 → get_or (phases_told s b p) a Ended ≡ Ready o → is_plain o ≡ true → P)
    → (phase_of b a ≡ Panicked → get_or (phases_told s b p) a Ended ≡ Panicked → P) → P
phase_after s limit b p a P h e same ready panicked =
    let ps : List ActorPhase = slice_set b.phases p Panicked in
    let before : get_or ps a Ended ≡ phase_of b a = phase_other b.phases p a Panicked e in
    let few : lost_by s b p a ≤ awaited_by b.connections b.messages a = lost-few s b p a in
    let calls : ℕ = count_by (lost_call s p a) b.messages in
    let answered : (k : ℕ) → count_by (lost_of s p a) b.connections ≡ k → phase_of b a ≡ Blocked → lost_by s b p a ≡ 1 → P =
    elim [
      | zero ↦ λ k blocked exactly.
          ready (Value PSA_ERROR_COMMUNICATION_FAILURE) blocked exactly
          (callers-told s p a b.messages (clients_answered s p b.connections ps) (told-same s p a b.connections ps k ∙ before ∙ blocked) (omega (arith, k, exactly))) refl
      | suc n ↦ λ k blocked exactly.
          let now = told-ready s p a b.connections ps (before ∙ blocked) (omega (arith, k, exactly)) in
          ready now.0 blocked exactly (callers-same s p a b.messages (clients_answered s p b.connections ps) (omega (arith, k, exactly)) ∙ now.1) now.2
    ] in
    let go : (n : ℕ) → lost_by s b p a ≡ n → P =
    elim [
      | zero ↦ λ z. same z (told-none s b p a z ∙ before)
      | suc n ↦ λ z.
          awaited_client (phase_of b a) (awaited_by b.connections b.messages a) (asked_by b.connections b.messages a) (λ m. count_by (accepted_as a m) b.connections) P (h.fitting a) (omega (arith, few, z))
          (λ blocked.
          let one : awaited_by b.connections b.messages a ≡ 1 = blocked-one (phase_of b a) _ _ (λ m. count_by (accepted_as a m) b.connections) blocked (h.fitting a) in
          answered _ refl blocked (omega (arith, few, z, one)))
          (λ gone.
          let none : asked_by b.connections b.messages a ≡ 0 = panicked-none (phase_of b a) _ _ (λ m. count_by (accepted_as a m) b.connections) gone (h.fitting a) in
          panicked gone (callers-same s p a b.messages (clients_answered s p b.connections ps) (omega (arith, none, count-le (lost_call s p a) (called_by a) (lost_called s p a) b.messages))
          ∙ told-panicked s p a b.connections ps (before ∙ gone)
          (omega (arith, none, count-le (lost_asking s p a) (asking_of a) (λ c. both-le-right (is_service_of s p c.service) (asking_of a c)) b.connections))))
    ] in
    go _ refl

fits-kept : (ph : ActorPhase) (n n' k k' : ℕ) (j j' : ℕ → ℕ) → n' ≡ n → k' ≤ k → ((m : ℕ) → j m ≤ j' m) → ((m : ℕ) → j' m ≤ 1) → PhaseFits ph n k j → PhaseFits ph n' k' j'
fits-kept (Connected c) n n' k k' j j' en ek ej one h = (en ∙ h.0, omega (arith, ej c, one c, h.1))
fits-kept Panicked n n' k k' j j' en ek ej one h = omega (arith, h)
fits-kept _ n n' k k' j j' en ek ej one h = en ∙ h

shown-step : (phases : List ActorPhase) (c : OpenConnection) (o k : Bool) (ph : ConnPhase) → (k && is_awaited ph) ≡ false
    → count_by (wrongly_shown phases) (left_as o k ph c) ≤ bit (not (same (is_none c.handle) (is_opening ph || is_joining (get_or phases c.client.0 Ended) c.serial)))
shown-step phases c o true Opening e = cc
shown-step phases c o true Busy e = cc
shown-step phases c o true Closing e = cc
shown-step phases c true true _ e = omega arith
shown-step phases c true false Opening e = omega arith
shown-step phases c true false Closing e = omega arith
shown-step phases c true false _ e = omega (arith, count-cons (wrongly_shown phases) (in_phase c Dead) [])
shown-step phases c false true Dead e = omega arith
shown-step phases c false true _ e = omega (arith, count-cons (wrongly_shown phases) (in_phase c Closing) [])
shown-step phases c false false ph e = omega (arith, count-cons (wrongly_shown phases) (in_phase c ph) [])

-- what is shown wrongly does not grow
shown-left : (s : System) (p : ℕ) (phases : List ActorPhase) (cs : List OpenConnection) → count_by (awaited_of p) cs ≡ 0 → count_by (wrongly_shown phases) (all_left s p cs) ≤ count_by (wrongly_shown phases) cs
shown-left s p phases [] h = omega arith
shown-left s p phases (c ∷ cs) h =
    let joining : Bool = is_joining (get_or phases c.client.0 Ended) c.serial in
    let wrong : ConnPhase → Bool = λ ph. not (same (is_none c.handle) (is_opening ph || joining)) in
    let own : bit (awaited_of p c) ≡ 0 = omega (arith, count-cons (awaited_of p) c cs) in
    let step : (o k : Bool) (ph : ConnPhase) → (k && is_awaited ph) ≡ false → count_by (wrongly_shown phases) (left_as o k ph c) ≤ bit (wrong ph) =
    shown-step phases c in
    omega (
      arith,
      step (is_service_of s p c.service) (c.client.0 == p) c.phase (off_from _ own),
      shown-left s p phases cs (omega (arith, count-cons (awaited_of p) c cs)),
      count-append (wrongly_shown phases) (left_as (is_service_of s p c.service) (c.client.0 == p) c.phase c) (all_left s p cs),
      count-cons (wrongly_shown phases) c cs,
    )

joining-after : (s : System) (limit : Handle → ℕ) (b : SpmState) (p a n : ℕ) → Balanced s limit b → p < length b.phases → awaited_by b.connections b.messages p ≡ 0 → ((k : ℕ) → is_joining (phase_of b p) k ≡ false)
    → is_joining (get_or (phases_told s b p) a Ended) n ≡ is_joining (phase_of b a) n
joining-after s limit b p a n h inside quiet free =
    let told : List ActorPhase = phases_told s b p in
    same_or_not a p (is_joining (get_or told a Ended) n ≡ is_joining (phase_of b a) n)
    (λ e.
    let now : get_or told p Ended ≡ Panicked = told-self s b p inside quiet in
    subst (λ (x : ℕ). is_joining (get_or told x Ended) n ≡ is_joining (phase_of b x) n) (sym e) (ap (λ (q : ActorPhase). is_joining q n) now ∙ sym (free n)))
    (λ e. phase_after s limit b p a (is_joining (get_or told a Ended) n ≡ is_joining (phase_of b a) n) h e
    (λ z now. ap (λ (q : ActorPhase). is_joining q n) now)
    (λ o blocked one now plain. ap (λ (q : ActorPhase). is_joining q n) now ∙ sym (ap (λ (q : ActorPhase). is_joining q n) blocked))
    (λ gone now. ap (λ (q : ActorPhase). is_joining q n) now ∙ sym (ap (λ (q : ActorPhase). is_joining q n) gone)))

after_panic-keeps : (s : System) (limit : Handle → ℕ) (b : SpmState) (p : ℕ) → Balanced s limit b → p < length b.phases → awaited_by b.connections b.messages p ≡ 0 → ((k : ℕ) → is_joining (phase_of b p) k ≡ false)
    → Balanced s limit (after_panic s b p)
after_panic-keeps s limit b p h inside quiet free =
    let left : List OpenConnection = all_left s p b.connections in
    let told : List ActorPhase = phases_told s b p in
    let sent : List PendingMessage = filter (λ m. not (is_service_of s p m.service)) b.messages ++ all_disconnects s p b.connections in
    let alone : count_by (awaited_of p) b.connections ≡ 0 = omega (arith, quiet) in
    let rises : Rises 0 left b.connections_made = rising-left s p 0 b.connections_made b.connections h.rising in
    record {
      within = λ x w. omega (arith, h.within x w, left-le s p (λ c. (c.client.0 == x) && (c.service == w)) (λ c ph. refl) b.connections);
      paired = λ t. omega (
        arith,
        count-append (message_marked t) (filter (λ m. not (is_service_of s p m.service)) b.messages) (all_disconnects s p b.connections),
        count-filter (message_marked t) (λ m. not (is_service_of s p m.service)) b.messages,
        count-ext (λ m. not (is_service_of s p m.service) && message_marked t m) (message_marked (kept_mark s p t))
            (λ m. mark-kept (is_service_of s p m.service) (λ n. t n m.client.0 m.service (phase_for m.kind)) m.connection) b.messages,
        h.paired (kept_mark s p t),
        marks-left s p t b.connections alone,
      );
      called = omega (
        arith,
        count-append (wrongly_called s) (filter (λ m. not (is_service_of s p m.service)) b.messages) (all_disconnects s p b.connections),
        no-disconnects s p (wrongly_called s) (λ c. refl) b.connections,
        count-filter-le (wrongly_called s) (λ m. not (is_service_of s p m.service)) b.messages,
        h.called,
      );
      rising = rises;
      fitting = λ a. same_or_not a p (PhaseFitsAt told left sent a)
          (λ e.
          let now : get_or told p Ended ≡ Panicked = told-self s b p inside quiet in
          subst (λ (x : ℕ). PhaseFitsAt told left sent x) (sym e)
          (subst (λ (q : ActorPhase). PhaseFits q (awaited_by left sent p) (asked_by left sent p) (λ n. count_by (accepted_as p n) left)) (sym now)
          (omega (arith, quiet, calls-after s p p b.messages b.connections, asking-left s p p b.connections, count-le (asking_of p) (awaited_of p) (asking_le p) b.connections))))
          (λ e. phase_after s limit b p a (PhaseFitsAt told left sent a) h e
          (λ z now. subst (λ (q : ActorPhase). PhaseFits q (awaited_by left sent a) (asked_by left sent a) (λ n. count_by (accepted_as a n) left)) (sym now)
          (fits-kept (phase_of b a) _ _ _ _ _ (λ n. count_by (accepted_as a n) left) (omega (arith, z, calls-after s p a b.messages b.connections, awaited-left s p a b.connections e)) (omega (arith, z, calls-after s p a b.messages b.connections, asking-left s p a b.connections))
          (λ m. accepted-left s p a m b.connections e)
          (λ m. omega (arith, serial-once 0 b.connections_made m left rises, count-le (accepted_as a m) (λ d. d.serial == m) (λ d. both-le-left (d.serial == m) ((d.client.0 == a) && is_accepted d.phase)) left))
          (h.fitting a)))
          (λ o blocked one now plain.
          let all : awaited_by b.connections b.messages a ≡ 1 = blocked-one (phase_of b a) _ _ (λ m. count_by (accepted_as a m) b.connections) blocked (h.fitting a) in
          subst (λ (q : ActorPhase). PhaseFits q (awaited_by left sent a) (asked_by left sent a) (λ n. count_by (accepted_as a n) left)) (sym now)
          (omega (arith, one, all, calls-after s p a b.messages b.connections, awaited-left s p a b.connections e)))
          (λ gone now.
          let none : asked_by b.connections b.messages a ≡ 0 = panicked-none (phase_of b a) _ _ (λ m. count_by (accepted_as a m) b.connections) gone (h.fitting a) in
          subst (λ (q : ActorPhase). PhaseFits q (awaited_by left sent a) (asked_by left sent a) (λ n. count_by (accepted_as a n) left)) (sym now)
          (omega (arith, none, calls-after s p a b.messages b.connections, asking-left s p a b.connections))));
      shown = omega (
        arith,
        h.shown,
        shown-left s p b.phases b.connections alone,
        count-ext (wrongly_shown told) (wrongly_shown b.phases)
            (λ d. ap (λ k. not (same (is_none d.handle) (is_opening d.phase || k))) (joining-after s limit b p d.client.0 d.serial h inside quiet free)) left,
      );
      handles = λ k. omega (
        arith,
        h.handles k,
        left-le s p (λ c. has_handle c.handle k) (λ c ph. refl) b.connections,
        count-append (λ m. has_handle m.handle k) (filter (λ m. not (is_service_of s p m.service)) b.messages) (all_disconnects s p b.connections),
        no-disconnects s p (λ m. has_handle m.handle k) (λ c. refl) b.connections,
        count-filter (λ m. has_handle m.handle k) (λ m. not (is_service_of s p m.service)) b.messages,
        count-le (λ m. not (is_service_of s p m.service) && has_handle m.handle k) (λ m. has_handle m.handle k) (λ m. both-le-right (not (is_service_of s p m.service)) (has_handle m.handle k)) b.messages,
      );
      single = h.single;
    }

pub panic-keeps : (s : System) (limit : Handle → ℕ) (b : SpmState) (p : ℕ) → Balanced s limit b → p < length b.phases → awaited_by b.connections b.messages p ≡ 0 → ((k : ℕ) → is_joining (phase_of b p) k ≡ false)
    → Balanced s limit (panic_effect s b p)
panic-keeps s limit b p h inside quiet free = subst (λ (x : SpmState). Balanced s limit x) (sym (after_panic-is s b p)) (after_panic-keeps s limit b p h inside quiet free)
