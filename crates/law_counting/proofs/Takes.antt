-- How many connections and messages each kind of change makes.
use Rattle.std.proofs.Common.{ℕ, ◌≡◌, ◌<◌, ◌≤◌, ◌+◌, ◌==◌, Bool, true, false, cond, not, ◌&&◌, List, [], ◌∷◌, ◌++◌, length, get_or, inl, inr, arith, ◌∙◌, ap, sym, refl, subst, length-append}
use Rattle.std.specs.Prelude.{ℤ, pos, count_by, Some, map, filter, slice_set, if◌then◌else◌}
use Rattle.std.proofs.lemmas.Bool.{eqb-true}
use Rattle.law_lists.proofs.Counts.{bit, bit-le, count-cons, count-ext, count-filter-le, count-le, count-map-same, count-push}
use Rattle.ffm_model.specs.declared.constants.TheConstants.{PSA_ERROR_COMMUNICATION_FAILURE}
use Rattle.ffm_model.specs.declared.system.System.{System}
use Rattle.ffm_model.specs.declared.machine.Handle.{Handle}
use Rattle.ffm_model.specs.declared.machine.Call.{Call}
use Rattle.ffm_model.specs.declared.machine.Outcome.TheVariants as outcome
use Rattle.ffm_model.specs.declared.objects.OpenConnection.{OpenConnection}
use Rattle.ffm_model.specs.declared.objects.PendingMessage.{PendingMessage}
use Rattle.ffm_model.specs.declared.objects.ConnPhase.{ConnPhase}
use Rattle.ffm_model.specs.declared.objects.ConnPhase.TheVariants.{Idle, Busy, Closing}
use Rattle.ffm_model.specs.declared.objects.ActorPhase.{ActorPhase}
use Rattle.ffm_model.specs.declared.objects.ActorPhase.TheVariants.{Running, Blocked, Waiting, Ready, Ended, Panicked}
use Rattle.ffm_model.specs.Actors.{is_service_of}
use Rattle.ffm_model.specs.State.{SpmState, phase_of, has_handle, phase_put, handle_put, rhandle_put, vectors_put, delivered, message_held, with_phase, with_request, without_connection}
use Rattle.ffm_model.specs.Names.{is_same_message}
use Rattle.ffm_model.specs.Signals.{is_panicked}
use Rattle.ffm_model.specs.Panic.{is_dead, panic_effect, disconnect_message}
use Rattle.ffm_model.specs.ClientCalls.{Move, move, call_on, close_on, is_service_panicked, new_connection}
use Rattle.law_counting.specs.Objects.{awaited_by, accepted_as}
use Rattle.law_counting.specs.Takes.{is_owned, owned}
use Rattle.law_counting.proofs.Balance.{Balanced}
use Rattle.law_counting.proofs.Parts.{same_or_not, is_there, phase_other, running-quiet}
use Rattle.law_counting.proofs.Bounds.{count-all}
use Rattle.law_counting.proofs.Resume.{times, delivered-same, put-same}
use Rattle.law_counting.proofs.Reply.{settled, settled-keeps}
use Rattle.law_counting.proofs.Losses.{left_as, all_left, disconnect_as, all_disconnects, after_panic, after_panic-is}
use Rattle.law_counting.proofs.Panic.{count-append, count-filter, left_cases}
use Rattle.law_counting.proofs.Keeps.{request-ready, ready-quiet}
use Rattle.law_counting.proofs.Turns.{Turned, settled-cases, panicked-self, panicked-other}
use Rattle.law_counting.proofs.Events.{EachKind}

-- a message that stands for another, as far as slots go
abbrev pub same_message : PendingMessage → PendingMessage → Bool
same_message m n = is_same_message m n

-- the messages that pass q stay, so many are added, and so many connections lose their owner
pub record Spends (b new : SpmState) : Type 0 where
  pub made : new.connections_made ≤ b.connections_made + 1
  pub grows : b.connections_made ≤ new.connections_made
  pub q : PendingMessage → Bool
  pub added : ℕ
  pub count : length new.messages ≤ count_by q b.messages + added
  pub stay : (m : PendingMessage) → count_by (λ x. q x && same_message m x) b.messages ≤ count_by (same_message m) new.messages
  pub owners : owned new + added + b.connections_made ≤ owned b + new.connections_made + 1

-- ---- owners

-- an actor that gets a phase was not Panicked
alive-set : (phases : List ActorPhase) (a : ℕ) (p : ActorPhase) → is_panicked (get_or phases a Ended) ≡ false → (x : ℕ) → bit (not (is_panicked (get_or (slice_set phases a p) x Ended))) ≤ bit (not (is_panicked (get_or phases x Ended)))
alive-set phases a p alive x =
    same_or_not x a (bit (not (is_panicked (get_or (slice_set phases a p) x Ended))) ≤ bit (not (is_panicked (get_or phases x Ended))))
    (λ e. let here : is_panicked (get_or phases x Ended) ≡ false = ap (λ (y : ℕ). is_panicked (get_or phases y Ended)) e ∙ alive in omega (arith, ap (λ (c : Bool). bit (not c)) here, bit-le (not (is_panicked (get_or (slice_set phases a p) x Ended)))))
    (λ e. omega (arith, ap (λ (q : ActorPhase). bit (not (is_panicked q))) (phase_other phases a x p e)))

-- where no actor comes to life, connections that lose nothing but their fields have no more owners
owned-set : (b : SpmState) (a : ℕ) (p : ActorPhase) (cs : List OpenConnection) → is_panicked (phase_of b a) ≡ false
    → count_by (λ c. not (is_panicked (get_or (slice_set b.phases a p) c.client.0 Ended))) cs ≤ count_by (is_owned b) cs
owned-set b a p cs alive = count-le (λ c. not (is_panicked (get_or (slice_set b.phases a p) c.client.0 Ended))) (is_owned b) (λ c. alive-set b.phases a p alive c.client.0) cs

-- ---- the same messages

kept-spends : (b new : SpmState) → new.connections_made ≡ b.connections_made → length new.messages ≡ length b.messages → ((m : PendingMessage) → count_by (same_message m) new.messages ≡ count_by (same_message m) b.messages)
    → owned new ≤ owned b → Spends b new
kept-spends b new made len same own = record {
  made = omega (arith, made);
  grows = omega (arith, made);
  q = λ x. true;
  added = 0;
  count = omega (arith, len, count-all b.messages);
  stay = λ m. omega (arith, same m);
  owners = omega (arith, own, made);
}

-- one message more
pushed-spends : (b new : SpmState) (x : PendingMessage) → new.connections_made ≤ b.connections_made + 1 → b.connections_made ≤ new.connections_made → new.messages ≡ b.messages ++ x ∷ []
    → owned new + b.connections_made ≤ owned b + new.connections_made → Spends b new
pushed-spends b new x made grows messages own = record {
  made = made;
  grows = grows;
  q = λ y. true;
  added = 1;
  count = omega (arith, ap (λ (ms : List PendingMessage). length ms) messages, length-append b.messages (x ∷ []), count-all b.messages);
  stay = λ m. omega (arith, ap (λ (ms : List PendingMessage). count_by (same_message m) ms) messages, count-push (same_message m) b.messages x);
  owners = omega (arith, own);
}

pub length-filter : {X : Type 0} (q : X → Bool) (xs : List X) → length (filter q xs) ≡ count_by q xs
length-filter q [] = refl
length-filter {X = X} q (x ∷ xs) =
    let go : (b : Bool) → length (cond {A = List X} b (x ∷ filter q xs) (filter q xs)) ≡ bit b + count_by q xs = elim [ true ↦ omega (arith, length-filter q xs) | false ↦ omega (arith, length-filter q xs) ] in
    go (q x) ∙ sym (count-cons q x xs)

-- a reply: the messages but for the one answered
pub record Settles (b new : SpmState) (q : PendingMessage → Bool) : Type 0 where
  pub messages : new.messages ≡ filter q b.messages
  pub made : new.connections_made ≡ b.connections_made
  pub owners : owned new ≤ owned b

answers-spend : (b new : SpmState) (q : PendingMessage → Bool) → Settles b new q → Spends b new
answers-spend b new q h = record {
  made = omega (arith, h.made);
  grows = omega (arith, h.made);
  q = q;
  added = 0;
  count = omega (arith, ap (λ (ms : List PendingMessage). length ms) h.messages, length-filter q b.messages);
  stay = λ m. omega (arith, ap (λ (ms : List PendingMessage). count_by (same_message m) ms) h.messages, count-filter (same_message m) q b.messages);
  owners = omega (arith, h.owners, h.made);
}

owner_blind : (n : ℕ) (f : OpenConnection → OpenConnection) (g : ℕ → Bool) → ((c : OpenConnection) → (f c).client.0 ≡ c.client.0) → (c : OpenConnection) → g (if c.serial == n then f c else c).client.0 ≡ g c.client.0
owner_blind n f g same c = put-same (λ (d : OpenConnection). d.serial == n) (λ d. g d.client.0) f (λ d. ap g (same d)) c

-- nor where one of them gets a phase
owned-put : (b : SpmState) (a : ℕ) (p : ActorPhase) (n : ℕ) (ph : ConnPhase) → is_panicked (phase_of b a) ≡ false
    → count_by (λ c. not (is_panicked (get_or (slice_set b.phases a p) c.client.0 Ended))) (map (phase_put n ph) b.connections) ≤ owned b
owned-put b a p n ph alive =
    omega (
      arith,
      owned-set b a p b.connections alive,
      count-map-same (λ c. not (is_panicked (get_or (slice_set b.phases a p) c.client.0 Ended))) (phase_put n ph) (owner_blind n (λ c. record c { phase = ph }) (λ x. not (is_panicked (get_or (slice_set b.phases a p) x Ended))) (λ c. refl)) b.connections,
    )

settled-answers : (s : System) (limit : Handle → ℕ) (b : SpmState) (p : ℕ) (h : Handle) (status : ℤ) (m : PendingMessage) → Balanced s limit b → message_held s b p h ≡ Some m
    → Settles b (settled b h status m) (λ n. not (has_handle n.handle h))
settled-answers s limit b p h status m balanced found =
    settled-cases s limit b p h status m balanced found (λ new. Settles b new (λ n. not (has_handle n.handle h)))
    (λ n ph q blocked told. record { messages = refl; made = refl; owners = owned-put b m.client.0 q n ph (ap is_panicked blocked) })
    (λ n q blocked told. record {
      messages = refl;
      made = refl;
      owners = omega (
        arith,
        owned-set b m.client.0 q b.connections (ap is_panicked blocked),
        count-filter-le (λ c. not (is_panicked (get_or (slice_set b.phases m.client.0 q) c.client.0 Ended))) (λ c. not (c.serial == n)) b.connections,
      );
    })
    (λ n. record { messages = refl; made = refl; owners = count-filter-le (is_owned b) (λ c. not (c.serial == n)) b.connections })
    (λ q blocked told. record { messages = refl; made = refl; owners = owned-set b m.client.0 q b.connections (ap is_panicked blocked) })

-- ---- a panic

-- a disconnection is sent for a connection whose client was alive, and is so no more
disconnect-step : (b new : SpmState) (p : ℕ) (c : OpenConnection) (o k : Bool) (ph : ConnPhase) → is_panicked (phase_of b p) ≡ false → is_panicked (phase_of new p) ≡ true
    → bit (is_owned new c) ≤ bit (is_owned b c) → (c.client.0 == p) ≡ k
    → length (disconnect_as o k ph c) + count_by (is_owned new) (left_as o k ph c) ≤ bit (is_owned b c)
disconnect-step b new p c o k ph alive dead le e =
    let left : count_by (is_owned new) (left_as o k ph c) ≤ bit (is_owned new c) =
    left_cases c (λ (xs : List OpenConnection). count_by (is_owned new) xs ≤ bit (is_owned new c)) (omega arith) (λ z. omega (arith, count-cons (is_owned new) (record c { phase = z }) [])) o k ph in
    let few : (x y z : Bool) → length (cond {A = List PendingMessage} x [] (cond {A = List PendingMessage} y (cond {A = List PendingMessage} z [] (disconnect_message c ∷ [])) [])) ≤ bit y =
    elim [ true ↦ λ y z. omega arith | false ↦ elim [ true ↦ elim [ true ↦ omega arith | false ↦ omega arith ] | false ↦ λ z. omega arith ] ] in
    let go : (x : Bool) → k ≡ x → bit k + bit (is_owned new c) ≤ bit (is_owned b c) =
    elim [
      | true ↦ λ f.
          let it : c.client.0 ≡ p = eqb-true c.client.0 p (e ∙ f) in
          let was : is_owned b c ≡ true = ap (λ (y : ℕ). not (is_panicked (phase_of b y))) it ∙ ap not alive in
          let now : is_owned new c ≡ false = ap (λ (y : ℕ). not (is_panicked (phase_of new y))) it ∙ ap not dead in
          omega (arith, ap bit was, ap bit now, ap bit f)
      | false ↦ λ f. omega (arith, le, ap bit f)
    ] in
    omega (arith, left, few o k (is_dead ph), go k refl)

disconnects-owned : (s : System) (b new : SpmState) (p : ℕ) → is_panicked (phase_of b p) ≡ false → is_panicked (phase_of new p) ≡ true → ((x : ℕ) → bit (not (is_panicked (phase_of new x))) ≤ bit (not (is_panicked (phase_of b x))))
    → (cs : List OpenConnection) → length (all_disconnects s p cs) + count_by (is_owned new) (all_left s p cs) ≤ count_by (is_owned b) cs
disconnects-owned s b new p alive dead le [] = omega arith
disconnects-owned s b new p alive dead le (c ∷ cs) =
    omega (
      arith,
      disconnect-step b new p c (is_service_of s p c.service) (c.client.0 == p) c.phase alive dead (le c.client.0) refl,
      disconnects-owned s b new p alive dead le cs,
      length-append (disconnect_as (is_service_of s p c.service) (c.client.0 == p) c.phase c) (all_disconnects s p cs),
      count-append (is_owned new) (left_as (is_service_of s p c.service) (c.client.0 == p) c.phase c) (all_left s p cs),
      count-cons (is_owned b) c cs,
    )

turned-alive : (p q : ActorPhase) → Turned p q → bit (not (is_panicked q)) ≤ bit (not (is_panicked p))
turned-alive p q (inl e) = omega (arith, ap (λ (x : ActorPhase). bit (not (is_panicked x))) e)
turned-alive p q (inr (inl k)) = omega (arith, ap (λ (x : ActorPhase). bit (not (is_panicked x))) k.0, bit-le (not (is_panicked q)))
turned-alive p q (inr (inr k)) = omega (arith, ap (λ (x : ActorPhase). bit (not (is_panicked x))) k.0, bit-le (not (is_panicked q)))

and_assoc : (x y z : Bool) → (x && (y && z)) ≡ ((x && y) && z)
and_assoc true y z = refl
and_assoc false y z = refl

-- a panic after a reply, or after nothing
panic-spends : (s : System) (limit : Handle → ℕ) (b mid : SpmState) (q : PendingMessage → Bool) (p : ℕ) → Settles b mid q → Balanced s limit mid → p < length mid.phases → is_panicked (phase_of mid p) ≡ false → awaited_by mid.connections mid.messages p ≡ 0
    → Spends b (panic_effect s mid p)
panic-spends s limit b mid q p it balanced inside alive quiet =
    let r : PendingMessage → Bool = λ m. not (is_service_of s p m.service) in
    let new : SpmState = after_panic s mid p in
    let same : panic_effect s mid p ≡ new = after_panic-is s mid p in
    let gone : phase_of new p ≡ Panicked = panicked-self s limit mid p balanced inside quiet in
    let le : (x : ℕ) → bit (not (is_panicked (phase_of new x))) ≤ bit (not (is_panicked (phase_of mid x))) =
    λ x. same_or_not x p (bit (not (is_panicked (phase_of new x))) ≤ bit (not (is_panicked (phase_of mid x))))
    (λ e. omega (arith, ap (λ (y : ℕ). bit (not (is_panicked (phase_of new y)))) e, ap (λ (z : ActorPhase). bit (not (is_panicked z))) gone))
    (λ e. turned-alive (phase_of mid x) (phase_of new x) (panicked-other s limit mid p x balanced e)) in
    let owners : length (all_disconnects s p mid.connections) + owned new ≤ owned mid = disconnects-owned s mid new p alive (ap is_panicked gone) le mid.connections in
    let sent : List PendingMessage = all_disconnects s p mid.connections in
    subst (λ (x : SpmState). Spends b x) (sym same) (record {
      made = omega (arith, it.made);
      grows = omega (arith, it.made);
      q = λ x. q x && r x;
      added = length sent;
      count = omega (
        arith,
        length-append (filter r mid.messages) sent,
        length-filter r mid.messages,
        ap (λ (ms : List PendingMessage). count_by r ms) it.messages,
        count-filter r q b.messages,
      );
      stay = λ m. omega (
        arith,
        count-append (same_message m) (filter r mid.messages) sent,
        count-filter (same_message m) r mid.messages,
        ap (λ (ms : List PendingMessage). count_by (λ x. r x && same_message m x) ms) it.messages,
        count-filter (λ x. r x && same_message m x) q b.messages,
        count-ext (λ x. q x && (r x && same_message m x)) (λ x. (q x && r x) && same_message m x) (λ x. and_assoc (q x) (r x) (same_message m x)) b.messages,
      );
      owners = omega (arith, owners, it.owners, it.made);
    })

pub filter-all : {X : Type 0} (xs : List X) → xs ≡ filter (λ x. true) xs
filter-all [] = refl
filter-all {X = X} (x ∷ xs) = ap (λ (ys : List X). x ∷ ys) (filter-all xs)

nothing-answers : (b : SpmState) → Settles b b (λ x. true)
nothing-answers b = record { messages = filter-all b.messages; made = refl; owners = omega arith }

-- ---- each kind of change

pub length-delivered : (v : ℕ) (h : Handle) (ms : List PendingMessage) → length (delivered v h ms) ≡ length ms
length-delivered v h ms = sym (count-all (delivered v h ms)) ∙ delivered-same (λ m. true) v h (λ m. refl) ms ∙ count-all ms

pub length-map : {X : Type 0} (f : X → X) (xs : List X) → length (map f xs) ≡ length xs
length-map f xs = sym (count-all (map f xs)) ∙ count-map-same (λ x. true) f (λ x. refl) xs ∙ count-all xs

pub kinds-spend : (s : System) (b : SpmState) (given : List Handle) (a : ℕ) (d : Call) → Balanced s (times given) b → EachKind s b given a d (λ o new all. Spends b new)
kinds-spend s b given a d h =
    let phased : (p q : ActorPhase) → phase_of b a ≡ q → is_panicked q ≡ false → Spends b (record b { phases = slice_set b.phases a p }) =
    λ p q e alive. kept-spends b (record b { phases = slice_set b.phases a p }) refl refl (λ m. refl) (owned-set b a p b.connections (ap is_panicked e ∙ alive)) in
    record {
      beside = λ running o doorbells sources plain. kept-spends b (record b { doorbells = doorbells; sources = sources }) refl refl (λ m. refl) (omega arith);
      waits = λ running mask. phased (Waiting mask) Running running refl;
      ends = λ running. phased Ended Running running refl;
      wakes = λ mask n e. phased Running (Waiting mask) e refl;
      returns = λ o e. phased Running (Ready o) e refl;
      joins = λ is n k e new.
          kept-spends b (record b { connections = map (handle_put n k) b.connections; phases = slice_set b.phases a Running }) refl refl (λ m. refl)
          (omega (
            arith,
            owned-set b a Running b.connections (ap is_panicked e),
            count-map-same (λ c. not (is_panicked (get_or (slice_set b.phases a Running) c.client.0 Ended))) (handle_put n k)
                (owner_blind n (λ c. record c { handle = Some k }) (λ x. not (is_panicked (get_or (slice_set b.phases a Running) x Ended))) (λ c. refl)) b.connections,
          ));
      connects = λ running v free.
          pushed-spends b _ _ (omega arith) (omega arith) refl
          (omega (
            arith,
            owned-set b a Blocked b.connections (ap is_panicked running),
            count-push (λ c. not (is_panicked (get_or (slice_set b.phases a Blocked) c.client.0 Ended))) b.connections (new_connection b a v),
            bit-le (not (is_panicked (get_or (slice_set b.phases a Blocked) a Ended))),
          ));
      calls = λ running k c n v held takes.
          let go : (d : Bool) → Spends b (cond {A = Move} d (move (outcome.Value PSA_ERROR_COMMUNICATION_FAILURE) b) (call_on b a (record c { phase = Idle }) (pos n) v)).spm =
          elim [
            | true ↦ kept-spends b b refl refl (λ m. refl) (omega arith)
            | false ↦ pushed-spends b _ _ (omega arith) (omega arith) refl (omega (arith, owned-put b a Blocked c.serial Busy (ap is_panicked running)))
          ] in
          go (is_dead c.phase);
      asks = λ running v n vs stateless may.
          let go : (d : Bool) → Spends b (cond {A = Move} d (move (outcome.Value PSA_ERROR_COMMUNICATION_FAILURE) b) (move outcome.Blocked (with_phase (with_request b a v (pos n) vs) a Blocked))).spm =
          elim [
            | true ↦ kept-spends b b refl refl (λ m. refl) (omega arith)
            | false ↦ pushed-spends b _ _ (omega arith) (omega arith) refl (omega (arith, owned-set b a Blocked b.connections (ap is_panicked running)))
          ] in
          go (is_service_panicked s b v);
      closes = λ running k c held.
          let go : (d : Bool) → Spends b (cond {A = Move} d (move outcome.Done (without_connection b c.serial)) (close_on b a (record c { phase = Idle }))).spm =
          elim [
            | true ↦ kept-spends b (without_connection b c.serial) refl refl (λ m. refl) (count-filter-le (is_owned b) (λ x. not (x.serial == c.serial)) b.connections)
            | false ↦ pushed-spends b _ _ (omega arith) (omega arith) refl (omega (arith, owned-put b a Blocked c.serial Closing (ap is_panicked running)))
          ] in
          go (is_dead c.phase);
      gets = λ running signal msg v is has first at k shown tells new.
          kept-spends b (record b { messages = delivered v k b.messages }) refl (length-delivered v k b.messages) (λ m. delivered-same (same_message m) v k (λ x. refl) b.messages) (omega arith);
      moves = λ running o k v plain.
          kept-spends b (record b { messages = map (vectors_put k v) b.messages }) refl (length-map (vectors_put k v) b.messages)
          (λ m. count-map-same (same_message m) (vectors_put k v) (put-same (λ x. has_handle x.handle k) (same_message m) (λ x. record x { vectors = v }) (λ x. refl)) b.messages) (omega arith);
      marks = λ running n r.
          kept-spends b (record b { connections = map (rhandle_put n r) b.connections }) refl refl (λ m. refl)
          (omega (arith, count-map-same (is_owned b) (rhandle_put n r) (owner_blind n (λ x. record x { rhandle = r }) (λ x. not (is_panicked (phase_of b x))) (λ x. refl)) b.connections));
      replies = λ running k status m held. answers-spend b (settled b k status m) _ (settled-answers s (times given) b a k status m h held);
      owes = λ running k status m n held kind.
          let told : SpmState = settled b k status m in
          let kept : Balanced s (times given) told = settled-keeps s (times given) b a k status m h held in
          let ready = request-ready s (times given) b a k status m n h held kind in
          panic-spends s (times given) b told _ m.client.0 (settled-answers s (times given) b a k status m h held) kept
          (is_there told.phases m.client.0 (λ x. let at : phase_of told m.client.0 ≡ Ready ready.0 = ready.1 in cc)) (ap is_panicked ready.1)
          (ready-quiet (phase_of told m.client.0) ready.0 _ _ (λ z. count_by (accepted_as m.client.0 z) told.connections) ready.1 (kept.fitting m.client.0));
      panics = λ running.
          panic-spends s (times given) b b (λ x. true) a (nothing-answers b) h (is_there b.phases a (λ x. cc)) (ap is_panicked running)
          (running-quiet (phase_of b a) _ _ (λ n. count_by (accepted_as a n) b.connections) running (h.fitting a));
    }
