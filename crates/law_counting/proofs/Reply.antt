-- Reply keeps the balance.
use Rattle.std.proofs.Common.{ℕ, zero, suc, ◌≡◌, ◌≤◌, ◌+◌, ◌==◌, Bool, true, false, cond, not, ◌&&◌, ◌||◌, List, get_or, arith, ◌∙◌, ap, sym, refl, subst}
use Rattle.std.specs.Prelude.{ℤ, pos, count_by, find, Some, map, filter, slice_set, is_none, negsuc, if◌then◌else◌}
use Rattle.ffm_model.specs.declared.system.System.{System}
use Rattle.ffm_model.specs.declared.machine.Handle.{Handle}
use Rattle.ffm_model.specs.declared.objects.OpenConnection.{OpenConnection}
use Rattle.ffm_model.specs.declared.objects.PendingMessage.{PendingMessage}
use Rattle.ffm_model.specs.declared.objects.ConnPhase.{ConnPhase}
use Rattle.ffm_model.specs.declared.objects.ConnPhase.TheVariants.{Opening, Idle, Busy, Error, Closing, Dead}
use Rattle.ffm_model.specs.declared.objects.ActorPhase.{ActorPhase}
use Rattle.ffm_model.specs.declared.objects.ActorPhase.TheVariants.{Blocked, Ready, Connected, Ended, Panicked}
use Rattle.ffm_model.specs.declared.machine.Outcome.{Outcome}
use Rattle.ffm_model.specs.Signals.{is_blocked}
use Rattle.ffm_model.specs.Panic.{is_dead}
use Rattle.ffm_model.specs.declared.machine.ActorId.{ActorId}
use Rattle.std.specs.Prelude.{int_le, int_lt, Option, None}
use Rattle.std.specs.Option.{option_map_or}
use Rattle.std.specs.Ordering.{int_eq}
use Rattle.std.proofs.lemmas.Bool.{and_from, and_parts, eqb-true}
use Rattle.law_lists.proofs.Counts.{bit, both-le-left, count-found, count-le, count-out, find-narrow, some-found}
use Rattle.law_lists.proofs.Tests.{find-passes}
use Rattle.ffm_model.specs.declared.machine.Outcome.TheVariants.{Done, Value}
use Rattle.ffm_model.specs.Actors.{is_service_of, is_stateless, permits}
use Rattle.law_counting.specs.Objects.{same}
use Rattle.ffm_model.specs.State.{SpmState, message_held, phase_of, has_handle, phase_put, without_message, with_connection_phase, with_phase}
use Rattle.ffm_model.specs.declared.constants.TheConstants.{PSA_IPC_CALL, PSA_IPC_CONNECT, PSA_ERROR_PROGRAMMER_ERROR, PSA_SUCCESS}
use Rattle.ffm_model.specs.ClientCalls.{is_busy}
use Rattle.ffm_model.specs.ServiceCalls.{connect_answered, close_answered, with_request_phase}
use Rattle.ffm_model.proofs.SerialLemmas.{rises-map, serial-once}
use Rattle.law_counting.proofs.Balance.{Balanced}
use Rattle.law_counting.specs.Objects.{PhaseFits, Mark, awaited_by, asked_by, called_by, wrongly_called, phase_for, is_joining, is_opening, is_awaited, is_asking, is_accepted, awaited_of, asking_of, accepted_as, wrongly_shown, message_marked, connection_marked}
use Rattle.law_counting.proofs.Parts.{is_there, found-serial, off_left, off_right, on_left, flipped, is_itself, off_from, set_same, asking-blocked}
use Rattle.law_counting.proofs.Updates.{serial-phase_put, put, out, moved-keeps, removed-keeps, sent-keeps, Moves}

-- the connection that a message belongs to, by its serial number n; u is a test that the phase for its kind passes
pub record Partner (b : SpmState) (n : ℕ) (m : PendingMessage) (u : ConnPhase → Bool) (c : OpenConnection) : Type 0 where
  pub here : find (λ d. d.serial == c.serial) b.connections ≡ Some c
  pub serial : c.serial ≡ n
  pub client : c.client.0 ≡ m.client.0
  pub service : c.service ≡ m.service
  pub passes : u c.phase ≡ true
  pub awaited : is_awaited c.phase ≡ true

-- the very fields of a message, with the test of the phase
abbrev pub mark_of : ℕ → PendingMessage → (ConnPhase → Bool) → Mark
mark_of k m u n a v ph = (n == k) && ((a == m.client.0) && ((v == m.service) && u ph))

-- a message of a connection passes a test where its fields do
pub marked_as : (m : PendingMessage) (n : ℕ) (t : Mark) → m.connection ≡ Some n → message_marked t m ≡ t n m.client.0 m.service (phase_for m.kind)
marked_as m n t e = ap (λ (o : Option ℕ). option_map_or (λ k. t k m.client.0 m.service (phase_for m.kind)) o false) e

-- and is no request by a stateless handle
pub uncalled : (m : PendingMessage) (n : ℕ) (x : Bool) → m.connection ≡ Some n → bit (is_none m.connection && x) ≡ 0
uncalled m n x e = ap (λ (o : Option ℕ). bit (is_none o && x)) e

own_mark : (n : ℕ) (m : PendingMessage) (u : ConnPhase → Bool) → m.connection ≡ Some n → u (phase_for m.kind) ≡ true → message_marked (mark_of n m u) m ≡ true
own_mark n m u conn e = marked_as m n (mark_of n m u) conn ∙ and_from _ _ (is_itself n) (and_from _ _ (is_itself m.client.0) (and_from _ _ (is_itself m.service) e))

pub partner : (s : System) (limit : Handle → ℕ) (b : SpmState) (q : PendingMessage → Bool) (n : ℕ) (m : PendingMessage) (u : ConnPhase → Bool) → Balanced s limit b → find q b.messages ≡ Some m → m.connection ≡ Some n
    → u (phase_for m.kind) ≡ true → (c : OpenConnection) × Partner b n m u c
partner s limit b q n m u h found conn e =
    let t : Mark = mark_of n m u in
    let some : 1 ≤ count_by (connection_marked t) b.connections =
    omega (arith, h.paired t, count-found q (message_marked t) b.messages m found, ap bit (own_mark n m u conn e)) in
    let it = some-found (connection_marked t) b.connections some in
    let c : OpenConnection = it.0 in
    let all : connection_marked t c ≡ true = find-passes (connection_marked t) b.connections c it.1 in
    let marked : t c.serial c.client.0 c.service c.phase ≡ true = (and_parts _ _ all).1 in
    let inner : ((c.client.0 == m.client.0) && ((c.service == m.service) && u c.phase)) ≡ true = (and_parts _ _ marked).1 in
    let last : ((c.service == m.service) && u c.phase) ≡ true = (and_parts _ _ inner).1 in (
      c,
      record {
        here = found-serial 0 b.connections_made _ b.connections c h.rising it.1;
        serial = eqb-true _ _ (and_parts _ _ marked).0;
        client = eqb-true _ _ (and_parts _ _ inner).0;
        service = eqb-true _ _ (and_parts _ _ last).0;
        passes = (and_parts _ _ last).1;
        awaited = (and_parts _ _ all).0;
      },
    )

-- the counts over the messages, where the one with the handle goes
pub message-out : (s : System) (limit : Handle → ℕ) (b : SpmState) (p : ℕ) (h : Handle) (m : PendingMessage) → Balanced s limit b
    → find (λ n. is_service_of s p n.service && has_handle n.handle h) b.messages ≡ Some m → (q : PendingMessage → Bool)
    → count_by q (filter (λ n. not (has_handle n.handle h)) b.messages) + bit (q m) ≡ count_by q b.messages
message-out s limit b p h m balanced found q =
    let few : count_by (λ n. has_handle n.handle h) b.messages ≤ 1 = omega (arith, balanced.handles h, balanced.single h) in
    count-out (λ n. has_handle n.handle h) q q (λ y e. refl) b.messages m few
    (find-narrow (λ n. is_service_of s p n.service && has_handle n.handle h) (λ n. has_handle n.handle h) (λ y e. (and_parts _ _ e).1) b.messages m few found)

asking_awaited : (p : ConnPhase) → bit (is_asking p) ≤ bit (is_awaited p)
asking_awaited Opening = omega arith
asking_awaited _ = omega arith

pub asking_le : (a : ℕ) (c : OpenConnection) → bit (asking_of a c) ≤ bit (awaited_of a c)
asking_le a c =
    let go : (b : Bool) → bit (b && is_asking c.phase) ≤ bit (b && is_awaited c.phase) = elim [ true ↦ asking_awaited c.phase | false ↦ omega arith ] in
    go (c.client.0 == a)

-- the client of an asking connection is Blocked, and is_service_of no other awaited one
pub client-blocked : (s : System) (limit : Handle → ℕ) (b : SpmState) (c : OpenConnection) → Balanced s limit b → find (λ d. d.serial == c.serial) b.connections ≡ Some c → is_asking c.phase ≡ true
    → phase_of b c.client.0 ≡ Blocked
client-blocked s limit b c h here asks =
    let a : ℕ = c.client.0 in
    asking-blocked (phase_of b a) (awaited_by b.connections b.messages a) (asked_by b.connections b.messages a) (λ n. count_by (accepted_as a n) b.connections) (h.fitting a)
    (omega (arith, count-found (λ d. d.serial == c.serial) (asking_of a) b.connections c here, on_left (a == a) (is_asking c.phase) (is_itself a), ap bit asks))
    (omega (arith, count-le (asking_of a) (awaited_of a) (asking_le a) b.connections))

pub blocked-one : (p : ActorPhase) (n k : ℕ) (j : ℕ → ℕ) → p ≡ Blocked → PhaseFits p n k j → n ≡ 1
blocked-one p n k j e h = subst (λ (q : ActorPhase). PhaseFits q n k j) e h

pub opening_is : (p : ConnPhase) → is_opening p ≡ true → p ≡ Opening
opening_is Opening e = refl
opening_is _ e = cc

pub busy_is : (p : ConnPhase) → is_busy p ≡ true → p ≡ Busy
busy_is Busy e = refl
busy_is _ e = cc

-- a connection is shown rightly
pub rightly : (s : System) (limit : Handle → ℕ) (b : SpmState) (c : OpenConnection) → Balanced s limit b → find (λ d. d.serial == c.serial) b.connections ≡ Some c → wrongly_shown b.phases c ≡ false
rightly s limit b c h here = off_from _ (omega (arith, h.shown, count-found (λ d. d.serial == c.serial) (wrongly_shown b.phases) b.connections c here))

pub both_same : (x y : Bool) → not (same x y) ≡ false → x ≡ y
both_same true true e = refl
both_same true false e = cc
both_same false true e = cc
both_same false false e = refl

-- what a message counts is what its connection counts
same_marks : (t : Mark) (n : ℕ) (m : PendingMessage) (c : OpenConnection) → m.connection ≡ Some n → c.serial ≡ n → c.client.0 ≡ m.client.0 → c.service ≡ m.service → c.phase ≡ phase_for m.kind → is_awaited c.phase ≡ true
    → bit (connection_marked t c) ≡ bit (message_marked t m)
same_marks t n m c conn k a v ph awaited =
    let e : t c.serial c.client.0 c.service c.phase ≡ t n m.client.0 m.service (phase_for m.kind) = cc in
    on_left (is_awaited c.phase) (t c.serial c.client.0 c.service c.phase) awaited ∙ ap bit e ∙ sym (ap bit (marked_as m n t conn))

-- the message with the handle goes, and its client gets a phase
answered : (s : System) (limit : Handle → ℕ) (b : SpmState) (p : ℕ) (h : Handle) (n : ℕ) (m : PendingMessage) (c : OpenConnection) (q : ActorPhase) → Balanced s limit b
    → find (λ n. is_service_of s p n.service && has_handle n.handle h) b.messages ≡ Some m → m.connection ≡ Some n → find (λ d. d.serial == c.serial) b.connections ≡ Some c → (phase_of b c.client.0 ≡ Ended → ⊥)
    → ((k : ℕ) → is_joining (phase_of b c.client.0) k ≡ false) → ((k : ℕ) → (k == c.serial) ≡ false → is_joining q k ≡ false) → Moves s limit b c q (filter (λ n. not (has_handle n.handle h)) b.messages)
answered s limit b p h n m c q balanced found conn here alive joined joins = record {
  balanced = balanced;
  here = here;
  client = is_there b.phases c.client.0 alive;
  joined = joined;
  joins = joins;
  handles = λ k. omega (arith, message-out s limit b p h m balanced found (λ n. has_handle n.handle k));
  calls = λ x. omega (arith, message-out s limit b p h m balanced found (called_by x), uncalled m n (m.client.0 == x) conn);
  called = omega (arith, message-out s limit b p h m balanced found (wrongly_called s), balanced.called);
}

-- Connect answered with 0
accept-own : (s : System) (limit : Handle → ℕ) (b : SpmState) (p : ℕ) (h : Handle) (n : ℕ) (m : PendingMessage) (c : OpenConnection) → Balanced s limit b
    → find (λ n. is_service_of s p n.service && has_handle n.handle h) b.messages ≡ Some m → m.connection ≡ Some n → m.kind ≡ negsuc 0 → Partner b n m is_opening c
    → Balanced s limit (record b { connections = map (phase_put c.serial Idle) b.connections; messages = filter (λ n. not (has_handle n.handle h)) b.messages; phases = slice_set b.phases c.client.0 (Connected c.serial) })
accept-own s limit b p h n m c balanced found conn kind it =
    let a : ℕ = c.client.0 in
    let opening : c.phase ≡ Opening = opening_is c.phase it.passes in
    let blocked : phase_of b a ≡ Blocked = client-blocked s limit b c balanced it.here (ap is_asking opening) in
    let one : awaited_by b.connections b.messages a ≡ 1 = blocked-one (phase_of b a) _ _ (λ n. count_by (accepted_as a n) b.connections) blocked (balanced.fitting a) in
    let after : List OpenConnection = map (phase_put c.serial Idle) b.connections in
    let none : is_none c.handle ≡ true =
    both_same (is_none c.handle) true (ap (λ ph. not (same (is_none c.handle) (is_opening ph || is_joining (get_or b.phases a Ended) c.serial))) (sym opening) ∙ rightly s limit b c balanced it.here) in
    moved-keeps s limit b c Idle (Connected c.serial) (filter (λ n. not (has_handle n.handle h)) b.messages)
    (answered s limit b p h n m c (Connected c.serial) balanced found conn it.here (λ ended. cc) (λ k. ap (λ ph. is_joining ph k) blocked) (λ k e. flipped k c.serial e))
    (λ t. omega (arith, message-out s limit b p h m balanced found (message_marked t), same_marks t n m c conn it.serial it.client it.service (opening ∙ sym (ap phase_for kind)) it.awaited)) (
      omega (arith, one, message-out s limit b p h m balanced found (called_by a), uncalled m n (m.client.0 == a) conn, put b c Idle balanced.rising it.here (awaited_of a), on_left (a == a) (is_awaited c.phase) (is_itself a), ap bit it.awaited, off_right (a == a) false refl),
      omega (
        arith,
        put b c Idle balanced.rising it.here (accepted_as a c.serial),
        on_left (c.serial == c.serial) ((a == a) && true) (is_itself c.serial),
        on_left (a == a) true (is_itself a),
        off_right (c.serial == c.serial) ((a == a) && is_accepted c.phase) (off_from _ (off_right (a == a) (is_accepted c.phase) (ap is_accepted opening))),
        count-le (accepted_as a c.serial) (λ d. d.serial == c.serial) (λ d. both-le-left (d.serial == c.serial) ((d.client.0 == a) && is_accepted d.phase)) after,
        serial-once 0 b.connections_made c.serial after (rises-map 0 b.connections_made (phase_put c.serial Idle) (serial-phase_put c.serial Idle) b.connections balanced.rising),
      ),
    )
    (ap (λ k. same k (false || (c.serial == c.serial))) none ∙ is_itself c.serial)

-- Connect answered with another status
refuse-own : (s : System) (limit : Handle → ℕ) (b : SpmState) (p : ℕ) (h : Handle) (n : ℕ) (m : PendingMessage) (c : OpenConnection) (status : ℤ) → Balanced s limit b
    → find (λ n. is_service_of s p n.service && has_handle n.handle h) b.messages ≡ Some m → m.connection ≡ Some n → m.kind ≡ negsuc 0 → Partner b n m is_opening c
    → Balanced s limit (record b { connections = filter (λ d. not (d.serial == c.serial)) b.connections; messages = filter (λ n. not (has_handle n.handle h)) b.messages; phases = slice_set b.phases c.client.0 (Ready (Value status)) })
refuse-own s limit b p h n m c status balanced found conn kind it =
    let a : ℕ = c.client.0 in
    let opening : c.phase ≡ Opening = opening_is c.phase it.passes in
    let blocked : phase_of b a ≡ Blocked = client-blocked s limit b c balanced it.here (ap is_asking opening) in
    let one : awaited_by b.connections b.messages a ≡ 1 = blocked-one (phase_of b a) _ _ (λ n. count_by (accepted_as a n) b.connections) blocked (balanced.fitting a) in
    removed-keeps s limit b c (Ready (Value status)) (filter (λ n. not (has_handle n.handle h)) b.messages)
    (answered s limit b p h n m c (Ready (Value status)) balanced found conn it.here (λ ended. cc) (λ k. ap (λ ph. is_joining ph k) blocked) (λ k e. refl))
    (λ t. omega (arith, message-out s limit b p h m balanced found (message_marked t), same_marks t n m c conn it.serial it.client it.service (opening ∙ sym (ap phase_for kind)) it.awaited))
    (omega (arith, one, message-out s limit b p h m balanced found (called_by a), uncalled m n (m.client.0 == a) conn, out b c balanced.rising it.here (awaited_of a), on_left (a == a) (is_awaited c.phase) (is_itself a), ap bit it.awaited))

-- a request answered
request-own : (s : System) (limit : Handle → ℕ) (b : SpmState) (p : ℕ) (h : Handle) (n : ℕ) (m : PendingMessage) (c : OpenConnection) (ph : ConnPhase) (o : Outcome) (k : ℕ) → Balanced s limit b
    → find (λ n. is_service_of s p n.service && has_handle n.handle h) b.messages ≡ Some m → m.connection ≡ Some n → m.kind ≡ pos k → Partner b n m is_busy c → is_awaited ph ≡ false → is_opening ph ≡ false
    → Balanced s limit (record b { connections = map (phase_put c.serial ph) b.connections; messages = filter (λ n. not (has_handle n.handle h)) b.messages; phases = slice_set b.phases c.client.0 (Ready o) })
request-own s limit b p h n m c ph o k balanced found conn kind it settled shut =
    let a : ℕ = c.client.0 in
    let busy : c.phase ≡ Busy = busy_is c.phase it.passes in
    let blocked : phase_of b a ≡ Blocked = client-blocked s limit b c balanced it.here (ap is_asking busy) in
    let one : awaited_by b.connections b.messages a ≡ 1 = blocked-one (phase_of b a) _ _ (λ n. count_by (accepted_as a n) b.connections) blocked (balanced.fitting a) in
    let none : is_none c.handle ≡ false =
    both_same (is_none c.handle) false (ap (λ x. not (same (is_none c.handle) x)) (sym (ap (λ y. is_opening y || is_joining (get_or b.phases a Ended) c.serial) busy ∙ ap (λ y. is_joining y c.serial) blocked)) ∙ rightly s limit b c balanced it.here) in
    moved-keeps s limit b c ph (Ready o) (filter (λ n. not (has_handle n.handle h)) b.messages)
    (answered s limit b p h n m c (Ready o) balanced found conn it.here (λ ended. cc) (λ k. ap (λ ph. is_joining ph k) blocked) (λ k e. refl))
    (λ t. omega (
      arith,
      message-out s limit b p h m balanced found (message_marked t),
      same_marks t n m c conn it.serial it.client it.service (busy ∙ sym (ap phase_for kind)) it.awaited,
      off_left (is_awaited ph) (t c.serial c.client.0 c.service ph) settled,
    ))
    (omega (arith, one, message-out s limit b p h m balanced found (called_by a), uncalled m n (m.client.0 == a) conn, put b c ph balanced.rising it.here (awaited_of a), on_left (a == a) (is_awaited c.phase) (is_itself a), ap bit it.awaited, off_right (a == a) (is_awaited ph) settled))
    (ap (λ x. same x (is_opening ph || false)) none ∙ ap (λ x. same false (x || false)) shut)

-- an awaited client is Blocked or Panicked
pub awaited_client : (p : ActorPhase) (n k : ℕ) (j : ℕ → ℕ) (P : Type 0) → PhaseFits p n k j → 1 ≤ n → (p ≡ Blocked → P) → (p ≡ Panicked → P) → P
awaited_client Blocked n k j P h one b q = b refl
awaited_client Panicked n k j P h one b q = q refl
awaited_client (Connected c) n k j P h one b q = absurd (omega (arith, h.0))
awaited_client _ n k j P h one b q = absurd (omega (arith, h))

pub panicked-none : (p : ActorPhase) (n k : ℕ) (j : ℕ → ℕ) → p ≡ Panicked → PhaseFits p n k j → k ≡ 0
panicked-none p n k j e h = subst (λ (q : ActorPhase). PhaseFits q n k j) e h

abbrev pub is_closing : ConnPhase → Bool
is_closing Closing = true
is_closing _ = false

pub closing_is : (p : ConnPhase) → is_closing p ≡ true → p ≡ Closing
closing_is Closing e = refl
closing_is _ e = cc

-- Close answered
closed-own : (s : System) (limit : Handle → ℕ) (b : SpmState) (p : ℕ) (h : Handle) (n : ℕ) (m : PendingMessage) (c : OpenConnection) → Balanced s limit b
    → find (λ n. is_service_of s p n.service && has_handle n.handle h) b.messages ≡ Some m → m.connection ≡ Some n → m.kind ≡ negsuc 1 → Partner b n m is_closing c
    → Balanced s limit (close_answered (without_message b h) c.serial (record m { client = c.client }))
closed-own s limit b p h n m c balanced found conn kind it =
    let a : ℕ = c.client.0 in
    let closing : c.phase ≡ Closing = closing_is c.phase it.passes in
    let left : List OpenConnection = filter (λ d. not (d.serial == c.serial)) b.connections in
    let rest : List PendingMessage = filter (λ n. not (has_handle n.handle h)) b.messages in
    let some : 1 ≤ awaited_by b.connections b.messages a =
    omega (arith, count-found (λ d. d.serial == c.serial) (awaited_of a) b.connections c it.here, on_left (a == a) (is_awaited c.phase) (is_itself a), ap bit it.awaited) in
    let still : (x : ℕ) → count_by (called_by x) rest ≡ count_by (called_by x) b.messages = λ x. omega (arith, message-out s limit b p h m balanced found (called_by x), uncalled m n (m.client.0 == x) conn) in
    let marks : (t : Mark) → count_by (message_marked t) rest + bit (connection_marked t c) ≡ count_by (message_marked t) b.messages =
    λ t. omega (arith, message-out s limit b p h m balanced found (message_marked t), same_marks t n m c conn it.serial it.client it.service (closing ∙ sym (ap phase_for kind)) it.awaited) in
    awaited_client (phase_of b a) _ _ (λ n. count_by (accepted_as a n) b.connections) _ (balanced.fitting a) some
    (λ blocked.
    let one : awaited_by b.connections b.messages a ≡ 1 = blocked-one (phase_of b a) _ _ (λ n. count_by (accepted_as a n) b.connections) blocked (balanced.fitting a) in
    subst (λ (x : ActorPhase). Balanced s limit (cond {A = SpmState} (is_blocked x) (record b { connections = left; messages = rest; phases = slice_set b.phases a (Ready Done) }) (record b { connections = left; messages = rest }))) (sym blocked)
    (removed-keeps s limit b c (Ready Done) rest
    (answered s limit b p h n m c (Ready Done) balanced found conn it.here (λ ended. cc) (λ k. ap (λ y. is_joining y k) blocked) (λ k e. refl))
    marks
    (omega (arith, one, message-out s limit b p h m balanced found (called_by a), uncalled m n (m.client.0 == a) conn, out b c balanced.rising it.here (awaited_of a), on_left (a == a) (is_awaited c.phase) (is_itself a), ap bit it.awaited))))
    (λ panicked.
    let none : asked_by b.connections b.messages a ≡ 0 = panicked-none (phase_of b a) _ _ (λ n. count_by (accepted_as a n) b.connections) panicked (balanced.fitting a) in
    subst (λ (x : ActorPhase). Balanced s limit (cond {A = SpmState} (is_blocked x) (record b { connections = left; messages = rest; phases = slice_set b.phases a (Ready Done) }) (record b { connections = left; messages = rest }))) (sym panicked)
    (subst (λ (ps : List ActorPhase). Balanced s limit (record b { connections = left; messages = rest; phases = ps })) (set_same b.phases a Panicked panicked)
    (removed-keeps s limit b c Panicked rest
    (answered s limit b p h n m c Panicked balanced found conn it.here (λ ended. cc) (λ k. ap (λ y. is_joining y k) panicked) (λ k e. refl))
    marks
    (omega (arith, none, still a, out b c balanced.rising it.here (asking_of a))))))

second : (s : System) (limit : Handle → ℕ) (b : Bool) (x y : SpmState) → b ≡ false → Balanced s limit y → Balanced s limit (cond {A = SpmState} b x y)
second s limit true x y e h = cc
second s limit false x y e h = h

pub not_negative : (n : ℕ) → int_lt (pos n) (pos 0) ≡ false
not_negative n = grind arith

not_both : (p : ConnPhase) → is_dead p ≡ true → is_awaited p ≡ true → ⊥
not_both Dead e k = cc
not_both _ e k = cc

abbrev actor : ℕ → ActorId
actor n = record { 0 = n }

-- a request answered as to a client that goes on, whoever its client is
abbrev pub request_settled : SpmState → PendingMessage → ℤ → SpmState
request_settled b m status =
    if int_eq status PSA_ERROR_PROGRAMMER_ERROR
    then with_phase (with_request_phase b m Error) m.client.0 (Ready (Value PSA_ERROR_PROGRAMMER_ERROR))
    else with_phase (with_request_phase b m Idle) m.client.0 (Ready (Value status))

-- a reply before the panic that a partition owes, and with that partition told like any other client
abbrev pub settled : SpmState → Handle → ℤ → PendingMessage → SpmState
settled b h status m =
    let rest = without_message b h in
    if int_eq m.kind PSA_IPC_CONNECT
    then option_map_or (λ n. connect_answered rest n m status) m.connection rest
    else (if int_lt m.kind PSA_IPC_CALL then option_map_or (λ n. close_answered rest n m) m.connection rest else request_settled rest m status)

-- the client of a request by a stateless handle is Blocked
pub caller-blocked : (s : System) (limit : Handle → ℕ) (b : SpmState) (q : PendingMessage → Bool) (m : PendingMessage) → Balanced s limit b → find q b.messages ≡ Some m → m.connection ≡ None → phase_of b m.client.0 ≡ Blocked
caller-blocked s limit b q m h found none =
    let a : ℕ = m.client.0 in
    let own : called_by a m ≡ true = and_from (is_none m.connection) (a == a) (ap is_none none) (is_itself a) in
    asking-blocked (phase_of b a) (awaited_by b.connections b.messages a) (asked_by b.connections b.messages a) (λ n. count_by (accepted_as a n) b.connections) (h.fitting a)
    (omega (arith, count-found q (called_by a) b.messages m found, ap bit own)) (omega (arith, count-le (asking_of a) (awaited_of a) (asking_le a) b.connections))

-- a request by a stateless handle is answered, and its client told
called-keeps : (s : System) (limit : Handle → ℕ) (b : SpmState) (p : ℕ) (h : Handle) (o : Outcome) (m : PendingMessage) → Balanced s limit b → message_held s b p h ≡ Some m → m.connection ≡ None
    → Balanced s limit (with_phase (without_message b h) m.client.0 (Ready o))
called-keeps s limit b p h o m balanced found none =
    let a : ℕ = m.client.0 in
    let rest : List PendingMessage = filter (λ n. not (has_handle n.handle h)) b.messages in
    let blocked : phase_of b a ≡ Blocked = caller-blocked s limit b _ m balanced found none in
    let one : awaited_by b.connections b.messages a ≡ 1 = blocked-one (phase_of b a) _ _ (λ n. count_by (accepted_as a n) b.connections) blocked (balanced.fitting a) in
    let gone : (q : PendingMessage → Bool) → count_by q rest + bit (q m) ≡ count_by q b.messages = message-out s limit b p h m balanced found in
    let own : called_by a m ≡ true = and_from (is_none m.connection) (a == a) (ap is_none none) (is_itself a) in
    let unmarked : (t : Mark) → bit (message_marked t m) ≡ 0 = λ t. ap (λ (x : Option ℕ). bit (option_map_or (λ k. t k m.client.0 m.service (phase_for m.kind)) x false)) none in
    let elsewhere : (x : ℕ) → (x == a) ≡ false → bit (called_by x m) ≡ 0 = λ x e. off_right (is_none m.connection) (a == x) (flipped x a e) in
    sent-keeps s limit b a (Ready o) rest
    (record {
      balanced = balanced;
      client = is_there b.phases a (λ ended. cc);
      joined = λ k. ap (λ y. is_joining y k) blocked;
      joins = λ k. refl;
      handles = λ k. omega (arith, gone (λ n. has_handle n.handle k));
      paired = λ t. omega (arith, gone (message_marked t), unmarked t);
      others = λ x e. omega (arith, gone (called_by x), elsewhere x e);
      called = omega (arith, gone (wrongly_called s), balanced.called);
    })
    (omega (arith, one, gone (called_by a), ap bit own))

-- a request is answered: its connection, where it has one, gets the phase
put_in : (s : System) (limit : Handle → ℕ) (b : SpmState) (p : ℕ) (h : Handle) (m : PendingMessage) (n : ℕ) (ph : ConnPhase) (o : Outcome) → Balanced s limit b → message_held s b p h ≡ Some m → m.kind ≡ pos n
    → is_awaited ph ≡ false → is_opening ph ≡ false → Balanced s limit (with_phase (with_request_phase (without_message b h) m ph) m.client.0 (Ready o))
put_in s limit b p h m n ph o balanced found e settled shut =
    let rest : List PendingMessage = filter (λ x. not (has_handle x.handle h)) b.messages in
    let go : (k : Option ℕ) → m.connection ≡ k → Balanced s limit (with_phase (option_map_or (λ i. with_connection_phase (without_message b h) i ph) k (without_message b h)) m.client.0 (Ready o)) =
    elim [
      | None ↦ λ none. called-keeps s limit b p h o m balanced found none
      | Some k ↦ λ conn.
          let it = partner s limit b _ k m is_busy balanced found conn (ap (λ z. is_busy (phase_for z)) e) in
          let c : OpenConnection = it.0 in
          subst (λ (x : ℕ). Balanced s limit (record b { connections = map (phase_put x ph) b.connections; messages = rest; phases = slice_set b.phases m.client.0 (Ready o) })) it.1.serial
          (subst (λ (a : ℕ). Balanced s limit (record b { connections = map (phase_put c.serial ph) b.connections; messages = rest; phases = slice_set b.phases a (Ready o) })) it.1.client
          (request-own s limit b p h k m c ph o n balanced found conn e it.1 settled shut))
    ] in
    go m.connection refl

request : (s : System) (limit : Handle → ℕ) (b : SpmState) (p : ℕ) (h : Handle) (status : ℤ) (m : PendingMessage) (n : ℕ) → Balanced s limit b → message_held s b p h ≡ Some m → m.kind ≡ pos n
    → Balanced s limit (request_settled (without_message b h) m status)
request s limit b p h status m n balanced found e =
    let rest : SpmState = without_message b h in
    let go : (d : Bool) → Balanced s limit (cond {A = SpmState} d (with_phase (with_request_phase rest m Error) m.client.0 (Ready (Value PSA_ERROR_PROGRAMMER_ERROR))) (with_phase (with_request_phase rest m Idle) m.client.0 (Ready (Value status)))) =
    elim [ true ↦ put_in s limit b p h m n Error (Value PSA_ERROR_PROGRAMMER_ERROR) balanced found e refl refl | false ↦ put_in s limit b p h m n Idle (Value status) balanced found e refl refl ] in
    go (int_eq status PSA_ERROR_PROGRAMMER_ERROR)

connect : (s : System) (limit : Handle → ℕ) (b : SpmState) (p : ℕ) (h : Handle) (status : ℤ) (k : ℕ) (m : PendingMessage) → Balanced s limit b → message_held s b p h ≡ Some m → m.connection ≡ Some k → m.kind ≡ negsuc 0
    → Balanced s limit (connect_answered (without_message b h) k m status)
connect s limit b p h status k m balanced found conn e =
    let it = partner s limit b _ k m is_opening balanced found conn (ap (λ z. is_opening (phase_for z)) e) in
    let c : OpenConnection = it.0 in
    let rest : List PendingMessage = filter (λ x. not (has_handle x.handle h)) b.messages in
    let go : (d : Bool) → Balanced s limit (cond {A = SpmState} d (record b { connections = map (phase_put k Idle) b.connections; messages = rest; phases = slice_set b.phases m.client.0 (Connected k) })
    (record b { connections = filter (λ x. not (x.serial == k)) b.connections; messages = rest; phases = slice_set b.phases m.client.0 (Ready (Value status)) })) =
    elim [
      | true ↦
          subst (λ (x : ℕ). Balanced s limit (record b { connections = map (phase_put x Idle) b.connections; messages = rest; phases = slice_set b.phases m.client.0 (Connected x) })) it.1.serial
          (subst (λ (a : ℕ). Balanced s limit (record b { connections = map (phase_put c.serial Idle) b.connections; messages = rest; phases = slice_set b.phases a (Connected c.serial) })) it.1.client
          (accept-own s limit b p h k m c balanced found conn e it.1))
      | false ↦
          subst (λ (x : ℕ). Balanced s limit (record b { connections = filter (λ d. not (d.serial == x)) b.connections; messages = rest; phases = slice_set b.phases m.client.0 (Ready (Value status)) })) it.1.serial
          (subst (λ (a : ℕ). Balanced s limit (record b { connections = filter (λ d. not (d.serial == c.serial)) b.connections; messages = rest; phases = slice_set b.phases a (Ready (Value status)) })) it.1.client
          (refuse-own s limit b p h k m c status balanced found conn e it.1))
    ] in
    go (int_eq status (pos 0))

close : (s : System) (limit : Handle → ℕ) (b : SpmState) (p : ℕ) (h : Handle) (k : ℕ) (m : PendingMessage) → Balanced s limit b → message_held s b p h ≡ Some m → m.connection ≡ Some k → m.kind ≡ negsuc 1
    → Balanced s limit (close_answered (without_message b h) k m)
close s limit b p h k m balanced found conn e =
    let it = partner s limit b _ k m is_closing balanced found conn (ap (λ z. is_closing (phase_for z)) e) in
    let c : OpenConnection = it.0 in
    subst (λ (x : ℕ). Balanced s limit (close_answered (without_message b h) x m)) it.1.serial
    (subst (λ (a : ActorId). Balanced s limit (close_answered (without_message b h) c.serial (record m { client = a }))) (ap actor it.1.client)
    (closed-own s limit b p h k m c balanced found conn e it.1))

-- no message of a connection has another kind
no-other : (s : System) (limit : Handle → ℕ) (b : SpmState) (p k n : ℕ) (h : Handle) (m : PendingMessage) → Balanced s limit b → message_held s b p h ≡ Some m → m.connection ≡ Some n → m.kind ≡ negsuc (suc (suc k)) → ⊥
no-other s limit b p k n h m balanced found conn e =
    let it = partner s limit b _ n m is_dead balanced found conn (ap (λ z. is_dead (phase_for z)) e) in
    not_both it.0.phase it.1.passes it.1.awaited

-- a message that is no request has a connection
pub connected : (s : System) (limit : Handle → ℕ) (b : SpmState) (q : PendingMessage → Bool) (m : PendingMessage) (n : ℕ) → Balanced s limit b → find q b.messages ≡ Some m → m.kind ≡ negsuc n → m.connection ≡ None → ⊥
connected s limit b q m n h found e none =
    let wrong : wrongly_called s m ≡ true =
    ap (λ (o : Option ℕ). is_none o && not (int_le PSA_IPC_CALL m.kind && (is_stateless s m.service && permits s m.client.0 m.service))) none
    ∙ ap (λ (z : ℤ). not (int_le PSA_IPC_CALL z && (is_stateless s m.service && permits s m.client.0 m.service))) e in
    omega (arith, count-found q (wrongly_called s) b.messages m found, ap bit wrong, h.called)

-- no message has another kind
pub no-kind : (s : System) (limit : Handle → ℕ) (b : SpmState) (p k : ℕ) (h : Handle) (m : PendingMessage) → Balanced s limit b → message_held s b p h ≡ Some m → m.kind ≡ negsuc (suc (suc k)) → ⊥
no-kind s limit b p k h m balanced found e =
    let go : (o : Option ℕ) → m.connection ≡ o → ⊥ = elim [ None ↦ λ none. connected s limit b _ m (suc (suc k)) balanced found e none | Some n ↦ λ conn. no-other s limit b p k n h m balanced found conn e ] in
    go m.connection refl

-- the message is answered, and its client told
pub settled-keeps : (s : System) (limit : Handle → ℕ) (b : SpmState) (p : ℕ) (h : Handle) (status : ℤ) (m : PendingMessage) → Balanced s limit b → message_held s b p h ≡ Some m → Balanced s limit (settled b h status m)
settled-keeps s limit b p h status m balanced found =
    let rest : SpmState = without_message b h in
    let on : (f : ℕ → SpmState) (k : ℕ) → m.kind ≡ negsuc k → ((n : ℕ) → m.connection ≡ Some n → Balanced s limit (f n)) → Balanced s limit (option_map_or f m.connection rest) =
    λ f k e keeps.
    let go : (o : Option ℕ) → m.connection ≡ o → Balanced s limit (option_map_or f o rest) = elim [ None ↦ λ none. absurd (connected s limit b _ m k balanced found e none) | Some n ↦ λ conn. keeps n conn ] in
    go m.connection refl in
    let A : SpmState = option_map_or (λ n. connect_answered rest n m status) m.connection rest in
    let C : SpmState = option_map_or (λ n. close_answered rest n m) m.connection rest in
    let whole : (k : ℤ) → m.kind ≡ k → Balanced s limit (cond {A = SpmState} (int_eq k (negsuc 0)) A (cond {A = SpmState} (int_lt k (pos 0)) C (request_settled rest m status))) =
    elim [
      | pos i ↦ λ e. second s limit (int_lt (pos i) (pos 0)) _ _ (not_negative i) (request s limit b p h status m i balanced found e)
      | negsuc i ↦ elim i as (λ (i : ℕ). m.kind ≡ negsuc i → Balanced s limit (cond {A = SpmState} (int_eq (negsuc i) (negsuc 0)) A (cond {A = SpmState} (int_lt (negsuc i) (pos 0)) C (request_settled rest m status)))) [
        | zero ↦ λ e. on (λ n. connect_answered rest n m status) 0 e (λ n conn. connect s limit b p h status n m balanced found conn e)
        | suc k ↦ elim k as (λ (k : ℕ). m.kind ≡ negsuc (suc k) → Balanced s limit (cond {A = SpmState} (int_eq (negsuc (suc k)) (negsuc 0)) A (cond {A = SpmState} (int_lt (negsuc (suc k)) (pos 0)) C (request_settled rest m status)))) [
          | zero ↦ λ e. on (λ n. close_answered rest n m) 1 e (λ n conn. close s limit b p h n m balanced found conn e)
          | suc j ↦ λ e. absurd (no-kind s limit b p j h m balanced found e)
        ]
      ]
    ] in
    whole m.kind refl

-- the client of a request is Blocked
pub request-blocked : (s : System) (limit : Handle → ℕ) (b : SpmState) (q : PendingMessage → Bool) (m : PendingMessage) (n : ℕ) → Balanced s limit b → find q b.messages ≡ Some m → m.kind ≡ pos n → phase_of b m.client.0 ≡ Blocked
request-blocked s limit b q m n balanced found e =
    let go : (o : Option ℕ) → m.connection ≡ o → phase_of b m.client.0 ≡ Blocked =
    elim [
      | None ↦ λ none. caller-blocked s limit b q m balanced found none
      | Some k ↦ λ conn.
          let it = partner s limit b q k m is_busy balanced found conn (ap (λ z. is_busy (phase_for z)) e) in
          subst (λ (x : ℕ). phase_of b x ≡ Blocked) it.1.client (client-blocked s limit b it.0 balanced it.1.here (ap is_asking (busy_is it.0.phase it.1.passes)))
    ] in
    go m.connection refl

-- the phase of its connection is no actor's
pub request-phases : (b : SpmState) (m : PendingMessage) (ph : ConnPhase) → (with_request_phase b m ph).phases ≡ b.phases
request-phases b m ph =
    let go : (o : Option ℕ) → (option_map_or (λ n. with_connection_phase b n ph) o b).phases ≡ b.phases = elim [ None ↦ refl | Some n ↦ refl ] in
    go m.connection

-- ---- the messages are those without the one answered

if-messages : (b : Bool) (x y : SpmState) (ms : List PendingMessage) → x.messages ≡ ms → y.messages ≡ ms → (if b then x else y).messages ≡ ms
if-messages true x y ms e f = e
if-messages false x y ms e f = f

option-messages : (f : ℕ → SpmState) (o : Option ℕ) (b : SpmState) → ((n : ℕ) → (f n).messages ≡ b.messages) → (option_map_or f o b).messages ≡ b.messages
option-messages f None b e = refl
option-messages f (Some n) b e = e n

pub settled-messages : (b : SpmState) (h : Handle) (status : ℤ) (m : PendingMessage) → (settled b h status m).messages ≡ (without_message b h).messages
settled-messages b h status m =
    let rest : SpmState = without_message b h in
    let request : (ph : ConnPhase) → (with_request_phase rest m ph).messages ≡ rest.messages = λ ph. option-messages (λ n. with_connection_phase rest n ph) m.connection rest (λ n. refl) in
    if-messages (int_eq m.kind PSA_IPC_CONNECT) _ _ rest.messages
    (option-messages (λ n. connect_answered rest n m status) m.connection rest (λ n. if-messages (int_eq status PSA_SUCCESS) _ _ rest.messages refl refl))
    (if-messages (int_lt m.kind PSA_IPC_CALL) _ _ rest.messages
    (option-messages (λ n. close_answered rest n m) m.connection rest (λ n. if-messages (is_blocked (phase_of rest m.client.0)) _ _ rest.messages refl refl))
    (if-messages (int_eq status PSA_ERROR_PROGRAMMER_ERROR) _ _ rest.messages (request Error) (request Idle)))
