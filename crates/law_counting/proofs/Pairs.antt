-- From the counts of a fitting state to its sentences on single messages and connections.
use Rattle.std.proofs.Common.{ℕ, zero, suc, ◌≡◌, ◌<◌, ◌≤◌, ◌+◌, ◌==◌, Bool, true, false, cond, not, ◌&&◌, ◌||◌, List, [], ◌∷◌, length, get_or, arith, ◌∙◌, ap, refl, subst}
use Rattle.std.specs.Prelude.{ℤ, pos, negsuc, int_le, count_by, is_none, Option, Some, None, if◌then◌else◌}
use Rattle.std.specs.Option.{option_map_or}
use Rattle.std.specs.Ordering.{int_eq}
use Rattle.std.proofs.lemmas.List.Sums.{get_or-le-sum_by}
use Rattle.std.proofs.lemmas.Bool.{and_from, and_parts}
use Rattle.law_lists.proofs.Counts.{bit, bit-le, both-le-left, count-cons, count-ext, count-le}
use Rattle.ffm_model.specs.declared.constants.TheConstants.{PSA_IPC_CALL, PSA_IPC_DISCONNECT}
use Rattle.ffm_model.specs.declared.system.System.{System}
use Rattle.ffm_model.specs.declared.objects.OpenConnection.{OpenConnection}
use Rattle.ffm_model.specs.declared.objects.PendingMessage.{PendingMessage}
use Rattle.ffm_model.specs.declared.objects.ConnPhase.{ConnPhase}
use Rattle.ffm_model.specs.declared.objects.ConnPhase.TheVariants.{Opening, Busy, Closing}
use Rattle.ffm_model.specs.declared.objects.ActorPhase.{ActorPhase}
use Rattle.ffm_model.specs.declared.objects.ActorPhase.TheVariants.{Blocked, Connected, Panicked}
use Rattle.ffm_model.specs.Actors.{is_stateless, permits}
use Rattle.ffm_model.specs.State.{SpmState, phase_of}
use Rattle.ffm_model.specs.Panic.{is_dead}
use Rattle.ffm_model.proofs.SerialLemmas.{serial-once}
use Rattle.law_counting.specs.Objects.{ObjectsFit, PhaseFits, Mark, phase_for, is_awaited, is_asking, is_opening, is_joining, awaited_by, asked_by, called_by, wrongly_called, awaited_of, asking_of, accepted_as, wrongly_shown, message_marked, connection_marked}
use Rattle.law_counting.specs.Pairs.{MessagesPair, IsCall, is_numbered, kind_fits, is_message_of, client_waits, is_disconnection}
use Rattle.law_counting.proofs.Parts.{is_itself, off_from, on_left, asking-blocked}
use Rattle.law_counting.proofs.Reply.{asking_le, both_same, blocked-one, marked_as}

-- an item of a list counts
pub member-counts : {X : Type 0} (q : X → Bool) (xs : List X) (i : ℕ) (d : X) → i < length xs → bit (q (get_or xs i d)) ≤ count_by q xs
member-counts q xs i d lt = get_or-le-sum_by (λ x. cond (q x) 1 0) xs i d lt

pub count-split : {X : Type 0} (p q : X → Bool) (xs : List X) → count_by (λ x. p x && q x) xs + count_by (λ x. not (p x) && q x) xs ≡ count_by q xs
count-split p q [] = refl
count-split p q (x ∷ xs) =
    let go : (b : Bool) → bit (b && q x) + bit (not b && q x) ≡ bit (q x) = elim [ true ↦ omega arith | false ↦ omega arith ] in
    omega (arith, count-cons (λ y. p y && q y) x xs, count-cons (λ y. not (p y) && q y) x xs, count-cons q x xs, go (p x), count-split p q xs)

pub none-counts : {X : Type 0} (q : X → Bool) → ((x : X) → q x ≡ false) → (xs : List X) → count_by q xs ≡ 0
none-counts q off [] = refl
none-counts q off (x ∷ xs) = omega (arith, count-cons q x xs, ap bit (off x), none-counts q off xs)

-- a kind that fits some phase fits the one that stands for it; no other kind has a message
dead_unawaited : (p : ConnPhase) → (is_awaited p && is_dead p) ≡ false
dead_unawaited Opening = refl
dead_unawaited _ = refl

fits_own : (kind : ℤ) → is_dead (phase_for kind) ≡ false → kind_fits (phase_for kind) kind ≡ true
fits_own (pos n) e = grind arith
fits_own (negsuc zero) e = refl
fits_own (negsuc (suc zero)) e = refl
fits_own (negsuc (suc (suc n))) e = cc

pub count-sum : {X : Type 0} (p q r : X → Bool) → ((x : X) → bit (p x) ≤ bit (q x) + bit (r x)) → (xs : List X) → count_by p xs ≤ count_by q xs + count_by r xs
count-sum p q r le [] = omega arith
count-sum p q r le (x ∷ xs) = omega (arith, count-cons p x xs, count-cons q x xs, count-cons r x xs, le x, count-sum p q r le xs)

pub two-below : {X : Type 0} (p q r : X → Bool) → ((x : X) → bit (p x) + bit (q x) ≤ bit (r x)) → (xs : List X) → count_by p xs + count_by q xs ≤ count_by r xs
two-below p q r le [] = omega arith
two-below p q r le (x ∷ xs) = omega (arith, count-cons p x xs, count-cons q x xs, count-cons r x xs, le x, two-below p q r le xs)

-- a kind that no message has
dead-wrong : (s : System) (m : PendingMessage) → bit (is_dead (phase_for m.kind)) ≤ bit (message_marked (λ n a v ph. is_dead ph) m) + bit (wrongly_called s m)
dead-wrong s m =
    let go : (o : Option ℕ) (kind : ℤ) (x : Bool) → bit (is_dead (phase_for kind)) ≤ bit (option_map_or (λ n. is_dead (phase_for kind)) o false) + bit (is_none o && not (int_le PSA_IPC_CALL kind && x)) =
    elim [
      | Some n ↦ λ kind x. omega arith
      | None ↦ elim [
        | pos n ↦ λ x. omega arith
        | negsuc n ↦ λ x. bit-le (is_dead (phase_for (negsuc n)))
      ]
    ] in
    go m.connection m.kind (is_stateless s m.service && permits s m.client.0 m.service)

none-dead : (s : System) (b : SpmState) → ObjectsFit s b → count_by (λ m. is_dead (phase_for m.kind)) b.messages ≡ 0
none-dead s b h =
    let t : Mark = λ n a v ph. is_dead ph in
    omega (
      arith,
      count-sum (λ m. is_dead (phase_for m.kind)) (message_marked t) (wrongly_called s) (dead-wrong s) b.messages,
      h.paired t,
      none-counts (connection_marked t) (λ c. dead_unawaited c.phase) b.connections,
      h.called,
    )

no-dead : (s : System) (b : SpmState) → ObjectsFit s b → (i : ℕ) (d : PendingMessage) → i < length b.messages → is_dead (phase_for (get_or b.messages i d).kind) ≡ false
no-dead s b h i d lt = off_from _ (omega (arith, member-counts (λ m. is_dead (phase_for m.kind)) b.messages i d lt, none-dead s b h))

fitting_awaited : (p : ConnPhase) (kind : ℤ) (x : Bool) → (is_awaited p && (x && kind_fits p kind)) ≡ (x && kind_fits p kind)
fitting_awaited Opening kind x = refl
fitting_awaited _ kind true = refl
fitting_awaited _ kind false = refl

and_assoc4 : (w x y z k : Bool) → (w && ((x && (y && z)) && k)) ≡ ((x && (y && z)) && k) → (w && (x && (y && (z && k)))) ≡ (x && (y && (z && k)))
and_assoc4 false true true true k e = e
and_assoc4 _ _ _ _ k e = refl

belongs : (s : System) (b : SpmState) → ObjectsFit s b → (i : ℕ) (d : PendingMessage) → i < length b.messages
    → count_by (λ c. is_message_of c (get_or b.messages i d)) b.connections ≡ (if is_none (get_or b.messages i d).connection then 0 else 1)
belongs s b h i d lt =
    let m : PendingMessage = get_or b.messages i d in
    let of : Option ℕ → OpenConnection → Bool = λ o c. option_map_or (λ k. c.serial == k) o false && ((c.client.0 == m.client.0) && ((c.service == m.service) && kind_fits c.phase m.kind)) in
    let on : (k : ℕ) → m.connection ≡ Some k → count_by (of (Some k)) b.connections ≡ 1 =
    λ k conn.
    let t : Mark = λ n a v ph. (n == k) && ((a == m.client.0) && ((v == m.service) && kind_fits ph m.kind)) in
    let own : message_marked t m ≡ true =
    marked_as m k t conn ∙ and_from _ _ (is_itself k) (and_from _ _ (is_itself m.client.0) (and_from _ _ (is_itself m.service) (fits_own m.kind (no-dead s b h i d lt)))) in
    let alike : count_by (connection_marked t) b.connections ≡ count_by (of (Some k)) b.connections =
    count-ext (connection_marked t) (of (Some k))
    (λ c. and_assoc4 (is_awaited c.phase) (c.serial == k) (c.client.0 == m.client.0) (c.service == m.service) (kind_fits c.phase m.kind)
    (fitting_awaited c.phase m.kind ((c.serial == k) && ((c.client.0 == m.client.0) && (c.service == m.service)))))
    b.connections in
    omega (
      arith,
      member-counts (message_marked t) b.messages i d lt,
      ap bit own,
      h.paired t,
      alike,
      count-le (of (Some k)) (λ c. c.serial == k) (λ c. both-le-left (c.serial == k) _) b.connections,
      serial-once 0 b.connections_made k b.connections h.rising,
    ) in
    let go : (o : Option ℕ) → m.connection ≡ o → count_by (of o) b.connections ≡ (if is_none o then 0 else 1) = elim [ None ↦ λ e. none-counts (of None) (λ c. refl) b.connections | Some k ↦ λ e. on k e ] in
    go m.connection refl

pub not_wrong : (x y : Bool) → x ≡ true → bit (x && not y) ≡ 0 → y ≡ true
not_wrong true true e h = refl
not_wrong true false e h = absurd (omega (arith, h))
not_wrong false y e h = cc

asking-awaited : (s : System) (b : SpmState) (a : ℕ) → ObjectsFit s b → asked_by b.connections b.messages a ≤ awaited_by b.connections b.messages a
asking-awaited s b a h = omega (arith, count-le (asking_of a) (awaited_of a) (asking_le a) b.connections)

called : (s : System) (b : SpmState) → ObjectsFit s b → (i : ℕ) (d : PendingMessage) → i < length b.messages → is_none (get_or b.messages i d).connection ≡ true → IsCall s b (get_or b.messages i d)
called s b h i d lt none =
    let m : PendingMessage = get_or b.messages i d in
    let a : ℕ = m.client.0 in
    let lawful : (int_le PSA_IPC_CALL m.kind && (is_stateless s m.service && permits s a m.service)) ≡ true = not_wrong _ _ none (omega (arith, member-counts (wrongly_called s) b.messages i d lt, h.called)) in
    let own : called_by a m ≡ true = and_from (is_none m.connection) (a == a) none (is_itself a) in
    record {
      request = (and_parts _ _ lawful).0;
      stateless = (and_parts _ _ (and_parts _ _ lawful).1).0;
      permitted = (and_parts _ _ (and_parts _ _ lawful).1).1;
      blocked = asking-blocked (phase_of b a) (awaited_by b.connections b.messages a) (asked_by b.connections b.messages a) (λ n. count_by (accepted_as a n) b.connections) (h.phases a)
          (omega (arith, member-counts (called_by a) b.messages i d lt, ap bit own)) (asking-awaited s b a h);
    }

pub carries : (s : System) (b : SpmState) → ObjectsFit s b → (i : ℕ) (d : OpenConnection) → i < length b.connections
    → count_by (is_numbered (get_or b.connections i d).serial) b.messages ≡ (if is_awaited (get_or b.connections i d).phase then 1 else 0)
carries s b h i d lt =
    let c : OpenConnection = get_or b.connections i d in
    let t : Mark = λ n a v ph. c.serial == n in
    let turn : (x n : ℕ) → (n == x) ≡ (x == n) = λ x n. grind arith in
    let here : bit (is_awaited c.phase && (c.serial == c.serial)) ≤ count_by (connection_marked t) b.connections = member-counts (connection_marked t) b.connections i d lt in
    let rest : bit (not (is_awaited c.phase) && (c.serial == c.serial)) ≤ count_by (λ x. not (is_awaited x.phase) && (x.serial == c.serial)) b.connections =
    member-counts (λ x. not (is_awaited x.phase) && (x.serial == c.serial)) b.connections i d lt in
    let all : count_by (connection_marked t) b.connections + count_by (λ x. not (is_awaited x.phase) && (x.serial == c.serial)) b.connections ≡ count_by (λ x. x.serial == c.serial) b.connections =
    ap (λ n. n + count_by (λ x. not (is_awaited x.phase) && (x.serial == c.serial)) b.connections)
    (count-ext (connection_marked t) (λ x. is_awaited x.phase && (x.serial == c.serial)) (λ x. ap (λ y. is_awaited x.phase && y) (turn x.serial c.serial)) b.connections)
    ∙ count-split (λ x. is_awaited x.phase) (λ x. x.serial == c.serial) b.connections in
    let few : count_by (λ x. x.serial == c.serial) b.connections ≤ 1 = serial-once 0 b.connections_made c.serial b.connections h.rising in
    let go : (x : Bool) → bit (x && (c.serial == c.serial)) ≤ count_by (connection_marked t) b.connections → bit (not x && (c.serial == c.serial)) ≤ count_by (λ x. not (is_awaited x.phase) && (x.serial == c.serial)) b.connections
    → count_by (connection_marked t) b.connections ≡ (if x then 1 else 0) =
    elim [
      | true ↦ λ e k. omega (arith, e, all, few, ap bit (is_itself c.serial))
      | false ↦ λ e k. omega (arith, k, all, few, ap bit (is_itself c.serial))
    ] in
    h.paired t ∙ go (is_awaited c.phase) here rest

-- the phase of a client that some connection awaits an answer for
waits-by : (p : ActorPhase) (ph : ConnPhase) (n k : ℕ) (j : ℕ → ℕ) → PhaseFits p n k j → is_awaited ph ≡ true → 1 ≤ n → bit (is_asking ph) ≤ k → client_waits ph p ≡ true
waits-by Blocked ph n k j h e one le = refl
waits-by Panicked Opening n k j h e one le = absurd (omega (arith, le, h))
waits-by Panicked Busy n k j h e one le = absurd (omega (arith, le, h))
waits-by Panicked Closing n k j h e one le = refl
waits-by Panicked _ n k j h e one le = cc
waits-by (Connected c) ph n k j h e one le = absurd (omega (arith, one, h.0))
waits-by _ ph n k j h e one le = absurd (omega (arith, one, h))

waits : (s : System) (b : SpmState) → ObjectsFit s b → (i : ℕ) (d : OpenConnection) → i < length b.connections → is_awaited (get_or b.connections i d).phase ≡ true
    → client_waits (get_or b.connections i d).phase (phase_of b (get_or b.connections i d).client.0) ≡ true
waits s b h i d lt e =
    let c : OpenConnection = get_or b.connections i d in
    let a : ℕ = c.client.0 in
    waits-by (phase_of b a) c.phase (awaited_by b.connections b.messages a) (asked_by b.connections b.messages a) (λ n. count_by (accepted_as a n) b.connections) (h.phases a) e
    (omega (arith, member-counts (awaited_of a) b.connections i d lt, on_left (a == a) (is_awaited c.phase) (is_itself a), ap bit e))
    (omega (arith, member-counts (asking_of a) b.connections i d lt, on_left (a == a) (is_asking c.phase) (is_itself a)))

pub joined-one : (p : ActorPhase) (n k m : ℕ) (j : ℕ → ℕ) → PhaseFits p n k j → p ≡ Connected m → j m ≡ 1
joined-one p n k m j h e = (subst (λ (q : ActorPhase). PhaseFits q n k j) e h).1

shown : (s : System) (b : SpmState) → ObjectsFit s b → (i : ℕ) (d : OpenConnection) → i < length b.connections
    → is_none (get_or b.connections i d).handle ≡ (is_opening (get_or b.connections i d).phase || is_joining (phase_of b (get_or b.connections i d).client.0) (get_or b.connections i d).serial)
shown s b h i d lt = both_same _ _ (off_from _ (omega (arith, member-counts (wrongly_shown b.phases) b.connections i d lt, h.shown)))

asking_kind : (kind : ℤ) → is_dead (phase_for kind) ≡ false → int_eq kind PSA_IPC_DISCONNECT ≡ false → is_asking (phase_for kind) ≡ true
asking_kind (pos n) e k = refl
asking_kind (negsuc zero) e k = refl
asking_kind (negsuc (suc zero)) e k = cc
asking_kind (negsuc (suc (suc n))) e k = cc

asking_awaited : (p : ConnPhase) (x : Bool) → (is_awaited p && (x && is_asking p)) ≡ (x && is_asking p)
asking_awaited Opening x = refl
asking_awaited _ true = refl
asking_awaited _ false = refl

asks-count : (s : System) (b : SpmState) (a : ℕ) → ObjectsFit s b → count_by (λ m. (m.client.0 == a) && is_asking (phase_for m.kind)) b.messages ≤ asked_by b.connections b.messages a
asks-count s b a h =
    let t : Mark = λ n x v ph. (x == a) && is_asking ph in
    let one : (o : Option ℕ) (x y : Bool) → bit (x && y) ≤ bit (option_map_or (λ n. x && y) o false) + bit (is_none o && x) =
    elim [ Some n ↦ λ x y. omega arith | None ↦ elim [ true ↦ λ y. bit-le y | false ↦ λ y. omega arith ] ] in
    omega (
      arith,
      count-sum (λ m. (m.client.0 == a) && is_asking (phase_for m.kind)) (message_marked t) (called_by a) (λ m. one m.connection (m.client.0 == a) (is_asking (phase_for m.kind))) b.messages,
      h.paired t,
      count-ext (connection_marked t) (asking_of a) (λ c. asking_awaited c.phase (c.client.0 == a)) b.connections,
    )

asking-few : (p : ActorPhase) (n k : ℕ) (j : ℕ → ℕ) → PhaseFits p n k j → k ≤ n → k ≤ 1
asking-few (Connected c) n k j h le = omega (arith, h.0)
asking-few _ n k j h le = omega (arith, h)

asked : (s : System) (b : SpmState) → ObjectsFit s b → (i : ℕ) (d : PendingMessage) → i < length b.messages → is_disconnection (get_or b.messages i d) ≡ false → phase_of b (get_or b.messages i d).client.0 ≡ Blocked
asked s b h i d lt e =
    let m : PendingMessage = get_or b.messages i d in
    let a : ℕ = m.client.0 in
    let asks_here : ((a == a) && is_asking (phase_for m.kind)) ≡ true = and_from _ _ (is_itself a) (asking_kind m.kind (no-dead s b h i d lt) e) in
    asking-blocked (phase_of b a) (awaited_by b.connections b.messages a) (asked_by b.connections b.messages a) (λ n. count_by (accepted_as a n) b.connections) (h.phases a)
    (omega (arith, member-counts (λ x. (x.client.0 == a) && is_asking (phase_for x.kind)) b.messages i d lt, ap bit asks_here, asks-count s b a h)) (asking-awaited s b a h)

asks_or_not : (kind : ℤ) → bit (not (int_eq kind PSA_IPC_DISCONNECT)) ≤ bit (is_asking (phase_for kind)) + bit (is_dead (phase_for kind))
asks_or_not (pos n) = bit-le (not (int_eq (pos n) PSA_IPC_DISCONNECT))
asks_or_not (negsuc zero) = omega arith
asks_or_not (negsuc (suc zero)) = omega arith
asks_or_not (negsuc (suc (suc n))) = bit-le (not (int_eq (negsuc (suc (suc n))) PSA_IPC_DISCONNECT))

alone : (s : System) (b : SpmState) (a : ℕ) → ObjectsFit s b → count_by (λ m. (m.client.0 == a) && not (is_disconnection m)) b.messages ≤ 1
alone s b a h =
    let one : (x : Bool) (kind : ℤ) → bit (x && not (int_eq kind PSA_IPC_DISCONNECT)) ≤ bit (x && is_asking (phase_for kind)) + bit (is_dead (phase_for kind)) =
    elim [ true ↦ λ kind. asks_or_not kind | false ↦ λ kind. omega arith ] in
    omega (
      arith,
      count-sum (λ m. (m.client.0 == a) && not (is_disconnection m)) (λ m. (m.client.0 == a) && is_asking (phase_for m.kind)) (λ m. is_dead (phase_for m.kind)) (λ m. one (m.client.0 == a) m.kind) b.messages,
      none-dead s b h,
      asks-count s b a h,
      asking-few (phase_of b a) (awaited_by b.connections b.messages a) (asked_by b.connections b.messages a) (λ n. count_by (accepted_as a n) b.connections) (h.phases a) (asking-awaited s b a h),
    )

-- in a state whose objects fit, messages and connections pair off
pub fitting-pairs : (s : System) (b : SpmState) → ObjectsFit s b → MessagesPair s b
fitting-pairs s b h = record {
  belongs = belongs s b h;
  called = called s b h;
  carries = carries s b h;
  waits = waits s b h;
  blocked = λ a e. blocked-one (phase_of b a) _ _ (λ n. count_by (accepted_as a n) b.connections) e (h.phases a);
  joined = λ a n e. joined-one (phase_of b a) _ _ n (λ k. count_by (accepted_as a k) b.connections) (h.phases a) e;
  shown = shown s b h;
  asked = asked s b h;
  alone = λ a. alone s b a h;
}
