-- No call is answered twice: what answers a client takes its one message away.
use Rattle.std.proofs.Common.{ℕ, ◌≡◌, ◌≤◌, ◌+◌, ◌==◌, Bool, true, false, not, ◌&&◌, List, [], ◌∷◌, arith, ◌∙◌, ap, sym, refl, subst}
use Rattle.std.specs.Prelude.{ℤ, pos, count_by, find, Option, Some, None, option_and_then, if◌then◌else◌, filter, slice_get}
use Rattle.std.specs.List.{AllByRecursion, cons_option, filter_map}
use Rattle.std.specs.Option.{option_map, option_map_or}
use Rattle.std.proofs.lemmas.Bool.{and_from, and_parts}
use Rattle.law_lists.proofs.Counts.{bit, bit-le, both-le-right, count-cons, count-ext, count-filter-le, count-found, count-le}
use Rattle.law_lists.proofs.Tests.{find-passes}
use Rattle.ffm_model.specs.declared.constants.TheConstants.{PSA_IPC_CONNECT, PSA_IPC_DISCONNECT}
use Rattle.ffm_model.specs.declared.system.Service.{Service}
use Rattle.ffm_model.specs.declared.system.Source.{Source}
use Rattle.ffm_model.specs.declared.system.System.{System}
use Rattle.ffm_model.specs.declared.machine.Handle.{Handle}
use Rattle.ffm_model.specs.declared.machine.Status.{Status}
use Rattle.ffm_model.specs.declared.machine.Entry.{Entry}
use Rattle.ffm_model.specs.declared.machine.Call.{Call}
use Rattle.ffm_model.specs.declared.machine.Call.TheVariants as call
use Rattle.ffm_model.specs.declared.machine.Outcome.{Outcome}
use Rattle.ffm_model.specs.declared.machine.Outcome.TheVariants as outcome
use Rattle.ffm_model.specs.declared.objects.OpenConnection.{OpenConnection}
use Rattle.ffm_model.specs.declared.objects.PendingMessage.{PendingMessage}
use Rattle.ffm_model.specs.declared.objects.ActorPhase.TheVariants.{Running, Blocked, Panicked}
use Rattle.ffm_model.specs.Actors.{is_service_of, owner_of, service_at}
use Rattle.ffm_model.specs.Signals.{is_blocked}
use Rattle.ffm_model.specs.State.{SpmState, State, connection_held, has_handle, message_held, phase_of, without_message}
use Rattle.ffm_model.specs.Panic.{disconnection, panic_effect, without_service}
use Rattle.ffm_model.specs.ServiceCalls.{owes_panic, replied}
use Rattle.ffm_model.specs.Step.{may_call, step}
use Rattle.law_counting.specs.Objects.{Mark, accepted_as, awaited_of, called_by, connection_marked, message_marked}
use Rattle.law_counting.proofs.Balance.{Balanced}
use Rattle.law_counting.proofs.Events.{caller-running}
use Rattle.law_counting.proofs.Owed.{owed-request, owed-settled, replied-settled}
use Rattle.law_counting.proofs.Pairs.{count-sum, count-split, two-below}
use Rattle.law_counting.proofs.Panic.{count-append, count-filter}
use Rattle.law_counting.proofs.Parts.{flipped, is_itself, same_or_not}
use Rattle.law_counting.proofs.Reply.{blocked-one, settled, settled-messages}
use Rattle.law_counting.proofs.Resume.{times}
use Rattle.law_counting.proofs.Runs.{step-keeps}
use Rattle.law_counting.proofs.Steps.{step-is}
use Rattle.law_counting.proofs.Turns.{is_sound, owed-panicked}
use Rattle.view_diagram.specs.declared.arrows.Arrow.{Arrow}
use Rattle.view_diagram.specs.declared.arrows.Meaning.TheVariants as meaning
use Rattle.view_diagram.specs.Arrows.{arrow, arrow_of_call, arrows_of, is_return, issued, message_arrow, panic_arrows, panicking_by, release_arrow, reply_arrow, service_of_handle}
use Rattle.view_diagram.specs.Gathering.{is_answer}
use Rattle.view_diagram.proofs.Replies.{IsReplied, step-replies}
use Rattle.view_diagram.proofs.Waiting.{awaited-is, client-is, each-disconnection}
use Rattle.view_diagram.proofs.Panics.{is_lost, own-panic}

-- ---- counting

pub none-counted : {X : Type 0} (q : X → Bool) (xs : List X) → AllByRecursion (λ x. q x ≡ false) xs → count_by q xs ≡ 0
none-counted q [] h = refl
none-counted q (x ∷ xs) h = omega (arith, count-cons q x xs, ap bit h.0, none-counted q xs h.1)

-- ---- the messages of a client

abbrev is_of : ℕ → PendingMessage → Bool
is_of c m = m.client.0 == c

-- a client that is Blocked has one
one-message : (s : System) (limit : Handle → ℕ) (b : SpmState) (c : ℕ) → Balanced s limit b → phase_of b c ≡ Blocked → count_by (is_of c) b.messages ≡ 1
one-message s limit b c h blocked =
    let t : Mark = λ n x v ph. x == c in
    omega (
      arith,
      count-sum (is_of c) (message_marked t) (called_by c) (λ m. omega (arith, client-is c m)) b.messages,
      two-below (message_marked t) (called_by c) (is_of c) (λ m. omega (arith, client-is c m)) b.messages,
      h.paired t,
      count-ext (connection_marked t) (awaited_of c) (awaited-is c) b.connections,
      blocked-one (phase_of b c) _ _ (λ n. count_by (accepted_as c n) b.connections) blocked (h.fitting c),
    )

no-message : (s : System) (limit : Handle → ℕ) (b : SpmState) (c : ℕ) → Balanced s limit b → count_by (is_of c) b.messages ≡ 0 → phase_of b c ≡ Blocked → ⊥
no-message s limit b c h none blocked = let bad : 1 ≤ 0 = omega (arith, one-message s limit b c h blocked, none) in absurd (omega (arith, bad))

-- one that a reply answers has none left
without-it : (c : ℕ) (h : Handle) (ms : List PendingMessage) (q : PendingMessage → Bool) (m : PendingMessage) → find q ms ≡ Some m → (has_handle m.handle h && is_of c m) ≡ true → count_by (is_of c) ms ≡ 1
    → count_by (is_of c) (filter (λ x. not (has_handle x.handle h)) ms) ≡ 0
without-it c h ms q m found passes one =
    omega (
      arith,
      count-filter (is_of c) (λ (x : PendingMessage). not (has_handle x.handle h)) ms,
      count-split (λ (x : PendingMessage). has_handle x.handle h) (is_of c) ms,
      count-found q (λ (x : PendingMessage). has_handle x.handle h && is_of c x) ms m found,
      ap bit passes,
      one,
    )

-- ---- the clients that a panic frees

abbrev pub frees : ℕ → Arrow → Bool
frees c x = is_answer x.meaning && (x.to.0 == c)

released-by : (s : System) (p c : ℕ) (m : PendingMessage) (x y : Bool) (more : List Arrow) (k : ℕ) → count_by (frees c) more ≤ k
    → count_by (frees c) (cons_option (if x && y then Some (arrow p m.client.0 (meaning.Release m.service m.kind)) else None) more) ≤ bit (x && is_of c m) + k
released-by s p c m true true more k few = omega (arith, count-cons (frees c) (arrow p m.client.0 (meaning.Release m.service m.kind)) more, few)
released-by s p c m true false more k few = omega (arith, few)
released-by s p c m false y more k few = omega (arith, few)

released-few : (s : System) (b : SpmState) (p c : ℕ) (ms : List PendingMessage) → count_by (frees c) (filter_map (release_arrow s b p) ms) ≤ count_by (is_lost s p c) ms
released-few s b p c [] = omega arith
released-few s b p c (m ∷ ms) =
    omega (
      arith,
      released-by s p c m (is_service_of s p m.service) (is_blocked (phase_of b m.client.0)) (filter_map (release_arrow s b p) ms) (count_by (is_lost s p c) ms) (released-few s b p c ms),
      count-cons (is_lost s p c) m ms,
    )

-- and none of their messages is left
others-disconnections : (s : System) (p c : ℕ) (cs : List OpenConnection) → (c == p) ≡ false → count_by (is_of c) (filter_map (λ x. option_and_then (disconnection p) (without_service s p x)) cs) ≡ 0
others-disconnections s p c cs apart =
    none-counted (is_of c) _ (each-disconnection (λ (m : PendingMessage). is_of c m ≡ false) s p (λ m own. ap (λ (x : ℕ). x == c) own ∙ flipped c p apart) cs)

abbrev stays : System → ℕ → ℕ → PendingMessage → Bool
stays s p c m = not (is_service_of s p m.service) && is_of c m

none-stays : (s : System) (p c : ℕ) (ms : List PendingMessage) → count_by (is_of c) ms ≤ count_by (is_lost s p c) ms → count_by (stays s p c) ms ≡ 0
none-stays s p c ms all = omega (arith, count-split (λ (m : PendingMessage). is_service_of s p m.service) (is_of c) ms, all)

panic-takes : (s : System) (b : SpmState) (p c : ℕ) → (c == p) ≡ false → count_by (stays s p c) b.messages ≡ 0 → count_by (is_of c) (panic_effect s b p).messages ≡ 0
panic-takes s b p c apart none =
    omega (
      arith,
      count-append (is_of c) (filter (λ (m : PendingMessage). not (is_service_of s p m.service)) b.messages) (filter_map (λ x. option_and_then (disconnection p) (without_service s p x)) b.connections),
      count-filter (is_of c) (λ (m : PendingMessage). not (is_service_of s p m.service)) b.messages,
      none,
      others-disconnections s p c b.connections apart,
    )

-- ---- the arrows of an entry that answer a client

-- one at most, and then the client is no longer Blocked
pub record Once (c : ℕ) (arrows : List Arrow) (new : SpmState) : Type 0 where
  pub few : count_by (frees c) arrows ≤ 1
  pub free : 1 ≤ count_by (frees c) arrows → phase_of new c ≡ Blocked → ⊥

none-once : (c : ℕ) (arrows : List Arrow) (new : SpmState) → count_by (frees c) arrows ≡ 0 → Once c arrows new
none-once c arrows new none = record { few = omega (arith, none); free = λ some blocked. absurd (omega (arith, none, some)) }

abbrev quiet : Option Arrow → Bool
quiet o = option_map_or (λ (x : Arrow). is_answer x.meaning) o false

quiet-count : (c : ℕ) (o : Option Arrow) (xs : List Arrow) → quiet o ≡ false → count_by (frees c) (cons_option o xs) ≡ count_by (frees c) xs
quiet-count c None xs e = refl
quiet-count c (Some x) xs e = omega (arith, count-cons (frees c) x xs, ap (λ (y : Bool). bit (y && (x.to.0 == c))) e)

message-quiet : (a service : ℕ) (kind : ℤ) (o : Option ℕ) → quiet (option_map (λ p. arrow a p (meaning.Message service kind)) o) ≡ false
message-quiet a service kind None = refl
message-quiet a service kind (Some p) = refl

then-quiet : {X : Type 0} (f : X → Option Arrow) → ((x : X) → quiet (f x) ≡ false) → (o : Option X) → quiet (option_and_then f o) ≡ false
then-quiet f q None = refl
then-quiet f q (Some x) = q x

issued-quiet : (s : System) (b : SpmState) (a : ℕ) (d : Call) → quiet (issued s b a d) ≡ false
issued-quiet s b a (call.Connect sid version) = then-quiet (message_arrow s a PSA_IPC_CONNECT) (λ v. message-quiet a v PSA_IPC_CONNECT (owner_of s v)) (service_at s sid)
issued-quiet s b a (call.Invoke h kind iv il ov ol) = then-quiet (message_arrow s a kind) (λ v. message-quiet a v kind (owner_of s v)) (service_of_handle s b a h)
issued-quiet s b a (call.Close h) = then-quiet (λ (c : OpenConnection). message_arrow s a PSA_IPC_DISCONNECT c.service) (λ c. message-quiet a c.service PSA_IPC_DISCONNECT (owner_of s c.service)) (connection_held b a h)
issued-quiet s b a d = refl

interrupt-quiet : (a source : ℕ) (pending : Bool) (o : Option Source) → quiet (option_map (λ (x : Source). arrow a x.owner (meaning.Interrupt source pending)) o) ≡ false
interrupt-quiet a source pending None = refl
interrupt-quiet a source pending (Some x) = refl

mark-quiet : (a : ℕ) (o : Outcome) (x : Bool) (y : Option Arrow) → quiet y ≡ false → quiet (if x then Some (arrow a a (meaning.Wake o)) else y) ≡ false
mark-quiet a o true y q = refl
mark-quiet a o false y q = q

quiet-once : (c : ℕ) (o : Option Arrow) (new : SpmState) → quiet o ≡ false → Once c (cons_option o []) new
quiet-once c o new q = none-once c (cons_option o []) new (quiet-count c o [] q)

-- the panic of the caller
panic-once : (s : System) (limit next : Handle → ℕ) (b new : SpmState) (a c : ℕ) (o : Option Arrow) → Balanced s limit b → Balanced s next new → phase_of b c ≡ Blocked → quiet o ≡ false → phase_of b a ≡ Running → new ≡ panic_effect s b a
    → Once c (cons_option o (panic_arrows s b a)) new
panic-once s limit next b new a c o h k blocked q running is =
    let apart : (c == a) ≡ false = same_or_not c a ((c == a) ≡ false) (λ z. absurd (let bad : Running ≡ Blocked = sym running ∙ (ap (phase_of b) (sym z) ∙ blocked) in cc)) (λ z. z) in
    let one : count_by (is_of c) b.messages ≡ 1 = one-message s limit b c h blocked in
    let below : count_by (is_lost s a c) b.messages ≤ count_by (is_of c) b.messages = count-le (is_lost s a c) (is_of c) (λ m. both-le-right (is_service_of s a m.service) (is_of c m)) b.messages in
    let here : count_by (frees c) (cons_option o (panic_arrows s b a)) ≤ count_by (is_lost s a c) b.messages =
    omega (arith, quiet-count c o (panic_arrows s b a) q, count-cons (frees c) (arrow a a meaning.Panic) (filter_map (release_arrow s b a) b.messages), released-few s b a c b.messages) in
    record {
      few = omega (arith, here, below, one);
      free = λ some now. no-message s next new c k (ap (λ (x : SpmState). count_by (is_of c) x.messages) is ∙ panic-takes s b a c apart (none-stays s a c b.messages (omega (arith, here, one, some)))) now;
    }

-- a reply, and the panic that it owes
of-two : (a p : ℕ) → (p == a) ≡ false → (o : Option Service) → bit (option_map_or (λ v. v.owner == a) o false) + bit (option_map_or (λ v. v.owner == p) o false) ≤ 1
of-two a p apart None = omega arith
of-two a p apart (Some v) =
    same_or_not v.owner a _ (λ z. let other : (v.owner == p) ≡ false = ap (λ (x : ℕ). x == p) z ∙ flipped p a apart in omega (arith, ap bit other, bit-le (v.owner == a))) (λ z. omega (arith, ap bit z, bit-le (v.owner == p)))

reply-count : (c a : ℕ) (status : ℤ) (m : PendingMessage) (xs : List Arrow) → count_by (frees c) (reply_arrow a status m ∷ xs) ≡ bit (is_of c m) + count_by (frees c) xs
reply-count c a status m xs = count-cons (frees c) (reply_arrow a status m) xs

-- what the reply leaves of the messages
replied-messages : (s : System) (b : SpmState) (h : Handle) (status : ℤ) (m : PendingMessage) → owes_panic s m status ≡ false → (replied s b h status m).messages ≡ (without_message b h).messages
replied-messages s b h status m free = ap (λ (x : SpmState). x.messages) (replied-settled s b h status m free) ∙ settled-messages b h status m

is-one : (c : ℕ) (m : PendingMessage) → 1 ≤ bit (is_of c m) → is_of c m ≡ true
is-one c m some = same_or_not m.client.0 c (is_of c m ≡ true) (λ z. ap (λ (x : ℕ). x == c) z ∙ is_itself c) (λ z. absurd (omega (arith, some, ap bit z)))

plain-once : (s : System) (limit next : Handle → ℕ) (b new : SpmState) (a c : ℕ) (h : Handle) (status : ℤ) (m : PendingMessage) → Balanced s limit b → Balanced s next new → phase_of b c ≡ Blocked → message_held s b a h ≡ Some m → owes_panic s m status ≡ false
    → new ≡ replied s b h status m → Once c (reply_arrow a status m ∷ []) new
plain-once s limit next b new a c h status m balanced k blocked held free is =
    let passes = find-passes (λ (x : PendingMessage). is_service_of s a x.service && has_handle x.handle h) b.messages m held in
    record {
      few = omega (arith, reply-count c a status m [], bit-le (is_of c m));
      free = λ some now.
          let own : is_of c m ≡ true = is-one c m (omega (arith, some, reply-count c a status m [])) in
          no-message s next new c k
          (ap (λ (x : SpmState). count_by (is_of c) x.messages) is ∙ ap (count_by (is_of c)) (replied-messages s b h status m free)
          ∙ without-it c h b.messages _ m held (and_from (has_handle m.handle h) (is_of c m) (and_parts _ _ passes).1 own) (one-message s limit b c balanced blocked)) now;
    }

-- the panic of the client that is answered with PROGRAMMER ERROR
own-owed : (s : System) (limit : Handle → ℕ) (b new : SpmState) (a : ℕ) (h : Handle) (status : ℤ) (m : PendingMessage) (n : ℕ) → Balanced s limit b → phase_of b a ≡ Running → phase_of b m.client.0 ≡ Blocked → message_held s b a h ≡ Some m → m.kind ≡ pos n
    → new ≡ panic_effect s (settled b h status m) m.client.0 → Once m.client.0 (reply_arrow a status m ∷ panic_arrows s b m.client.0) new
own-owed s limit b new a h status m n balanced running blocked held kind is =
    let p : ℕ = m.client.0 in
    let passes : (is_service_of s a m.service ≡ true) × (has_handle m.handle h ≡ true) = and_parts _ _ (find-passes (λ (x : PendingMessage). is_service_of s a x.service && has_handle x.handle h) b.messages m held) in
    let apart : (p == a) ≡ false = same_or_not p a ((p == a) ≡ false) (λ z. absurd (let bad : Running ≡ Blocked = sym running ∙ (ap (phase_of b) (sym z) ∙ blocked) in cc)) (λ z. z) in
    let split : (x : PendingMessage) → bit (is_lost s a p x) + bit (is_lost s p p x) ≤ bit (is_of p x) =
    λ x. let go : (y z w : Bool) → bit y + bit z ≤ 1 → bit (y && w) + bit (z && w) ≤ bit w = elim [ true ↦ elim [ true ↦ λ w few. absurd (omega (arith, few)) | false ↦ λ w few. omega arith ] | false ↦ λ z w few. omega (arith, both-le-right z w) ] in
    go (is_service_of s a x.service) (is_service_of s p x.service) (is_of p x) (of-two a p apart (slice_get s.services x.service)) in
    let gone : phase_of new p ≡ Panicked = ap (λ (x : SpmState). phase_of x p) is ∙ owed-panicked s limit b a h status m n balanced held kind in
    record {
      few = omega (
        arith,
        reply-count p a status m (panic_arrows s b p),
        count-cons (frees p) (arrow p p meaning.Panic) (filter_map (release_arrow s b p) b.messages),
        released-few s b p p b.messages,
        two-below (is_lost s a p) (is_lost s p p) (is_of p) split b.messages,
        count-found _ (is_lost s a p) b.messages m held,
        ap bit (and_from (is_service_of s a m.service) (is_of p m) passes.0 (is_itself p)),
        one-message s limit b p balanced blocked,
        bit-le (is_of p m),
      );
      free = λ some now. let bad : Blocked ≡ Panicked = sym now ∙ gone in cc;
    }

others-owed : (s : System) (limit next : Handle → ℕ) (b new : SpmState) (a c : ℕ) (h : Handle) (status : ℤ) (m : PendingMessage) → Balanced s limit b → Balanced s next new → phase_of b c ≡ Blocked → (c == m.client.0) ≡ false
    → new ≡ panic_effect s (settled b h status m) m.client.0 → Once c (reply_arrow a status m ∷ panic_arrows s b m.client.0) new
others-owed s limit next b new a c h status m balanced k blocked apart is =
    let p : ℕ = m.client.0 in
    let told : SpmState = settled b h status m in
    let keeps : PendingMessage → Bool = λ x. not (has_handle x.handle h) in
    let one : count_by (is_of c) b.messages ≡ 1 = one-message s limit b c balanced blocked in
    let below : count_by (is_lost s p c) b.messages ≤ count_by (is_of c) b.messages = count-le (is_lost s p c) (is_of c) (λ x. both-le-right (is_service_of s p x.service) (is_of c x)) b.messages in
    let here : count_by (frees c) (reply_arrow a status m ∷ panic_arrows s b p) ≤ count_by (is_lost s p c) b.messages =
    omega (arith, reply-count c a status m (panic_arrows s b p), ap bit (flipped c p apart), count-cons (frees c) (arrow p p meaning.Panic) (filter_map (release_arrow s b p) b.messages), released-few s b p c b.messages) in
    record {
      few = omega (arith, here, below, one);
      free = λ some now. no-message s next new c k (ap (λ (x : SpmState). count_by (is_of c) x.messages) is ∙ panic-takes s told p c apart (omega (arith, ap (count_by (stays s p c)) (settled-messages b h status m), count-filter-le (stays s p c) keeps b.messages, none-stays s p c b.messages (omega (arith, here, one, some))))) now;
    }

owed-once : (s : System) (limit next : Handle → ℕ) (b new : SpmState) (a c : ℕ) (h : Handle) (status : ℤ) (m : PendingMessage) → Balanced s limit b → Balanced s next new → phase_of b a ≡ Running → phase_of b c ≡ Blocked → message_held s b a h ≡ Some m
    → owes_panic s m status ≡ true → new ≡ panic_effect s (replied s b h status m) m.client.0 → Once c (reply_arrow a status m ∷ panic_arrows s b m.client.0) new
owed-once s limit next b new a c h status m balanced k running blocked held owes is =
    let now : new ≡ panic_effect s (settled b h status m) m.client.0 = is ∙ owed-settled s b h status m owes in
    same_or_not c m.client.0 (Once c (reply_arrow a status m ∷ panic_arrows s b m.client.0) new)
    (λ z. subst (λ (x : ℕ). Once x (reply_arrow a status m ∷ panic_arrows s b m.client.0) new) (sym z)
    (owed-request s m status _ owes (λ n kind. own-owed s limit b new a h status m n balanced running (ap (phase_of b) (sym z) ∙ blocked) held kind now)))
    (λ z. others-owed s limit next b new a c h status m balanced k blocked z now)

answer-once : (s : System) (limit next : Handle → ℕ) (b new : SpmState) (a c : ℕ) (h : Handle) (status : ℤ) (m : PendingMessage) (x : Bool) → Balanced s limit b → Balanced s next new → phase_of b a ≡ Running → phase_of b c ≡ Blocked → message_held s b a h ≡ Some m
    → owes_panic s m status ≡ x → new ≡ (if x then panic_effect s (replied s b h status m) m.client.0 else replied s b h status m) → Once c (reply_arrow a status m ∷ option_map_or (panic_arrows s b) (if x then Some m.client.0 else None) []) new
answer-once s limit next b new a c h status m true balanced k running blocked held owes is = owed-once s limit next b new a c h status m balanced k running blocked held owes is
answer-once s limit next b new a c h status m false balanced k running blocked held owes is = plain-once s limit next b new a c h status m balanced k blocked held owes is

-- ---- an entry

-- what an entry is known to be
pub record Event (s : System) (st new : State) (e : Entry) (c : ℕ) : Type 0 where
  pub balanced : Balanced s (times st.handles_given) st.spm
  pub sound : is_sound (phase_of st.spm e.actor.0) ≡ true
  pub is : step s st e ≡ Some new
  pub blocked : phase_of st.spm c ≡ Blocked

abbrev ArrowsAs : System → SpmState → ℕ → Call → Outcome → List Arrow
ArrowsAs s b a d o = cons_option (if is_return d then Some (arrow a a (meaning.Wake o)) else arrow_of_call s b a d o) (option_map_or (panic_arrows s b) (panicking_by s b a d o) [])

reply-entry : (s : System) (st new : State) (e : Entry) (c : ℕ) (h : Handle) (status : Status) → Event s st new e c → e.call ≡ call.Reply h status → e.outcome ≡ outcome.Done → Once c (ArrowsAs s st.spm e.actor.0 (call.Reply h status) outcome.Done) new.spm
reply-entry s st new e c h status event reply done =
    let b : SpmState = st.spm in
    let a : ℕ = e.actor.0 in
    let r : IsReplied s b a h status.0 new.spm = step-replies s st new e h status event.is reply done in
    let may : may_call s b a (call.Reply h status) ≡ true = ap (may_call s b a) (sym reply) ∙ (step-is s st new e event.is).may in
    let running : phase_of b a ≡ Running = caller-running s b a (call.Reply h status) (λ p. refl) may in
    subst (λ (o : Option PendingMessage). Once c (cons_option (option_map (reply_arrow a status.0) o) (option_map_or (panic_arrows s b) (option_and_then (λ m. if owes_panic s m status.0 then Some m.client.0 else None) o) [])) new.spm) (sym r.held)
    (answer-once s (times st.handles_given) (times new.handles_given) b new.spm a c h status.0 r.message (owes_panic s r.message status.0) event.balanced (step-keeps s st new e event.balanced event.is) running event.blocked r.held refl r.spm)

done-entry : (s : System) (st new : State) (e : Entry) (c : ℕ) (d : Call) → Event s st new e c → e.call ≡ d → e.outcome ≡ outcome.Done → Once c (ArrowsAs s st.spm e.actor.0 d outcome.Done) new.spm
done-entry s st new e c (call.Reply h status) event is done = reply-entry s st new e c h status event is done
done-entry s st new e c (call.Raise source) event is done = quiet-once c _ new.spm (interrupt-quiet e.actor.0 source true (slice_get s.sources source))
done-entry s st new e c (call.Fire source result) event is done = quiet-once c _ new.spm (interrupt-quiet e.actor.0 source _ (slice_get s.sources source))
done-entry s st new e c d event is done = none-once c _ new.spm refl

entry-by : (s : System) (st new : State) (e : Entry) (c : ℕ) (d : Call) (o : Outcome) → Event s st new e c → e.call ≡ d → e.outcome ≡ o → Once c (ArrowsAs s st.spm e.actor.0 d o) new.spm
entry-by s st new e c d outcome.Done event is out = done-entry s st new e c d event is out
entry-by s st new e c d outcome.Panicked event is out =
    let a : ℕ = e.actor.0 in
    let was = own-panic s st new e event.sound event.is out in
    panic-once s (times st.handles_given) (times new.handles_given) st.spm new.spm a c _ event.balanced (step-keeps s st new e event.balanced event.is) event.blocked (mark-quiet a outcome.Panicked (is_return d) None refl) was.0 was.1
entry-by s st new e c d outcome.Blocked event is out = quiet-once c _ new.spm (mark-quiet e.actor.0 outcome.Blocked (is_return d) (issued s st.spm e.actor.0 d) (issued-quiet s st.spm e.actor.0 d))
entry-by s st new e c d (outcome.Value z) event is out = quiet-once c _ new.spm (mark-quiet e.actor.0 (outcome.Value z) (is_return d) (Some (arrow e.actor.0 e.actor.0 (meaning.Refusal z))) refl)
entry-by s st new e c d o event is out = quiet-once c _ new.spm (mark-quiet e.actor.0 o (is_return d) None refl)

pub entry-once : (s : System) (st new : State) (e : Entry) (c : ℕ) → Event s st new e c → Once c (arrows_of s st.spm e) new.spm
entry-once s st new e c event = entry-by s st new e c e.call e.outcome event refl refl
