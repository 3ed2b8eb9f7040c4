-- The three updates that calls are made of keep the balance: a connection changes its phase, a connection goes, an actor's phase changes.
use Rattle.std.proofs.Common.{ℕ, ◌≡◌, ◌<◌, ◌≤◌, ◌+◌, ◌==◌, Bool, true, false, cond, not, ◌&&◌, ◌||◌, List, length, get_or, arith, ◌∙◌, ap, refl}
use Rattle.std.specs.Prelude.{count_by, find, Some, map, filter, slice_set, is_none}
use Rattle.std.proofs.lemmas.Bool.{and_left}
use Rattle.law_lists.proofs.Counts.{bit, count-ext, count-out, count-put}
use Rattle.ffm_model.specs.declared.system.System.{System}
use Rattle.ffm_model.specs.declared.machine.Handle.{Handle}
use Rattle.ffm_model.specs.declared.objects.OpenConnection.{OpenConnection}
use Rattle.ffm_model.specs.declared.objects.PendingMessage.{PendingMessage}
use Rattle.ffm_model.specs.declared.objects.ConnPhase.{ConnPhase}
use Rattle.ffm_model.specs.declared.objects.ActorPhase.{ActorPhase}
use Rattle.ffm_model.specs.declared.objects.ActorPhase.TheVariants.{Ended}
use Rattle.law_counting.specs.Objects.{same}
use Rattle.ffm_model.specs.State.{Rises, SpmState, phase_of, has_handle, phase_put}
use Rattle.ffm_model.proofs.SerialLemmas.{rises-filter, rises-map, serial-once}
use Rattle.law_counting.proofs.Balance.{Balanced}
use Rattle.law_counting.specs.Objects.{PhaseFits, Mark, awaited_by, asked_by, called_by, wrongly_called, is_joining, is_opening, is_awaited, is_asking, is_accepted, awaited_of, asking_of, accepted_as, wrongly_shown, message_marked, connection_marked}
use Rattle.law_counting.proofs.Parts.{phase_same, fitting-set, joining-set, off_left, off_right, flipped}

abbrev pub in_phase : OpenConnection → ConnPhase → OpenConnection
in_phase c ph = record c { phase = ph }

pub serial-phase_put : (n : ℕ) (ph : ConnPhase) (c : OpenConnection) → (phase_put n ph c).serial ≡ c.serial
serial-phase_put n ph c =
    let go : (b : Bool) → (cond b (in_phase c ph) c).serial ≡ c.serial = elim [ true ↦ refl | false ↦ refl ] in
    go (c.serial == n)

-- whether an actor joins a connection changes at one actor and one connection at most
joining-other : (phases : List ActorPhase) (a n m x : ℕ) (p : ActorPhase) → a < length phases → ((k : ℕ) → is_joining (get_or phases a Ended) k ≡ false)
    → ((k : ℕ) → (k == n) ≡ false → is_joining p k ≡ false) → (m == n) ≡ false
    → is_joining (get_or (slice_set phases a p) x Ended) m ≡ is_joining (get_or phases x Ended) m
joining-other phases a n m x p inside old new other = joining-set phases a m x p inside (old m) (new m other)

pub record Moves (s : System) (limit : Handle → ℕ) (b : SpmState) (c : OpenConnection) (p : ActorPhase) (messages : List PendingMessage) : Type 0 where
  pub balanced : Balanced s limit b
  pub here : find (λ d. d.serial == c.serial) b.connections ≡ Some c
  pub client : c.client.0 < length b.phases
  pub joined : (k : ℕ) → is_joining (phase_of b c.client.0) k ≡ false
  pub joins : (k : ℕ) → (k == c.serial) ≡ false → is_joining p k ≡ false
  pub handles : (k : Handle) → count_by (λ m. has_handle m.handle k) messages ≤ count_by (λ m. has_handle m.handle k) b.messages
  pub calls : (x : ℕ) → count_by (called_by x) messages ≡ count_by (called_by x) b.messages
  pub called : count_by (wrongly_called s) messages ≡ 0

-- a count over the connections, where c gets the phase
pub put : (b : SpmState) (c : OpenConnection) (ph : ConnPhase) → Rises 0 b.connections b.connections_made → find (λ d. d.serial == c.serial) b.connections ≡ Some c
    → (q : OpenConnection → Bool) → count_by q (map (phase_put c.serial ph) b.connections) + bit (q c) ≡ count_by q b.connections + bit (q (in_phase c ph))
put b c ph rising here q =
    count-put (λ d. d.serial == c.serial) q q (λ d. in_phase d ph) (λ y e. refl) b.connections c (serial-once 0 b.connections_made c.serial b.connections rising) here

-- a count over the connections, where c goes
pub out : (b : SpmState) (c : OpenConnection) → Rises 0 b.connections b.connections_made → find (λ d. d.serial == c.serial) b.connections ≡ Some c
    → (q : OpenConnection → Bool) → count_by q (filter (λ d. not (d.serial == c.serial)) b.connections) + bit (q c) ≡ count_by q b.connections
out b c rising here q = count-out (λ d. d.serial == c.serial) q q (λ y e. refl) b.connections c (serial-once 0 b.connections_made c.serial b.connections rising) here

pub moved-keeps : (s : System) (limit : Handle → ℕ) (b : SpmState) (c : OpenConnection) (ph : ConnPhase) (p : ActorPhase) (messages : List PendingMessage) → Moves s limit b c p messages
    → ((t : Mark) → count_by (message_marked t) messages + bit (connection_marked t c) ≡ count_by (message_marked t) b.messages + bit (connection_marked t (in_phase c ph)))
    → PhaseFits p (awaited_by (map (phase_put c.serial ph) b.connections) messages c.client.0) (asked_by (map (phase_put c.serial ph) b.connections) messages c.client.0) (λ n. count_by (accepted_as c.client.0 n) (map (phase_put c.serial ph) b.connections))
    → same (is_none c.handle) (is_opening ph || is_joining p c.serial) ≡ true
    → Balanced s limit (record b { connections = map (phase_put c.serial ph) b.connections; messages = messages; phases = slice_set b.phases c.client.0 p })
moved-keeps s limit b c ph p messages h paired fits shown =
    let change : (q : OpenConnection → Bool) → count_by q (map (phase_put c.serial ph) b.connections) + bit (q c) ≡ count_by q b.connections + bit (q (in_phase c ph)) =
    put b c ph h.balanced.rising h.here in
    let a : ℕ = c.client.0 in
    let right : bit (wrongly_shown (slice_set b.phases a p) (in_phase c ph)) ≡ 0 =
    ap (λ q. bit (not (same (is_none c.handle) (is_opening ph || is_joining q c.serial)))) (phase_same b.phases a p h.client) ∙ ap (λ k. bit (not k)) shown in
    record {
      within = λ x w. omega (arith, change (λ d. (d.client.0 == x) && (d.service == w)), h.balanced.within x w);
      paired = λ t. omega (arith, change (connection_marked t), paired t, h.balanced.paired t);
      called = h.called;
      rising = rises-map 0 b.connections_made (phase_put c.serial ph) (serial-phase_put c.serial ph) b.connections h.balanced.rising;
      fitting = fitting-set b.phases a p
          (awaited_by b.connections b.messages) (awaited_by (map (phase_put c.serial ph) b.connections) messages)
          (asked_by b.connections b.messages) (asked_by (map (phase_put c.serial ph) b.connections) messages)
          (λ x n. count_by (accepted_as x n) b.connections) (λ x n. count_by (accepted_as x n) (map (phase_put c.serial ph) b.connections))
          h.client fits
          (λ x e. omega (arith, h.calls x, change (awaited_of x), off_left (a == x) (is_awaited c.phase) (flipped x a e), off_left (a == x) (is_awaited ph) (flipped x a e)))
          (λ x e. omega (arith, h.calls x, change (asking_of x), off_left (a == x) (is_asking c.phase) (flipped x a e), off_left (a == x) (is_asking ph) (flipped x a e)))
          (λ x n e. omega (
            arith,
            change (accepted_as x n),
            off_right (c.serial == n) ((a == x) && is_accepted c.phase) (and_left (a == x) (is_accepted c.phase) (flipped x a e)),
            off_right (c.serial == n) ((a == x) && is_accepted ph) (and_left (a == x) (is_accepted ph) (flipped x a e)),
          ))
          h.balanced.fitting;
      shown = omega (
        arith,
        right,
        h.balanced.shown,
        count-put (λ d. d.serial == c.serial) (wrongly_shown b.phases) (wrongly_shown (slice_set b.phases a p)) (λ d. in_phase d ph)
            (λ y e. ap (λ k. not (same (is_none y.handle) (is_opening y.phase || k)))
            (joining-other b.phases a c.serial y.serial y.client.0 p h.client h.joined h.joins e))
            b.connections c (serial-once 0 b.connections_made c.serial b.connections h.balanced.rising) h.here,
      );
      handles = λ k. omega (arith, change (λ d. has_handle d.handle k), h.handles k, h.balanced.handles k);
      single = h.balanced.single;
    }

pub removed-keeps : (s : System) (limit : Handle → ℕ) (b : SpmState) (c : OpenConnection) (p : ActorPhase) (messages : List PendingMessage) → Moves s limit b c p messages
    → ((t : Mark) → count_by (message_marked t) messages + bit (connection_marked t c) ≡ count_by (message_marked t) b.messages)
    → PhaseFits p (awaited_by (filter (λ d. not (d.serial == c.serial)) b.connections) messages c.client.0) (asked_by (filter (λ d. not (d.serial == c.serial)) b.connections) messages c.client.0) (λ n. count_by (accepted_as c.client.0 n) (filter (λ d. not (d.serial == c.serial)) b.connections))
    → Balanced s limit (record b { connections = filter (λ d. not (d.serial == c.serial)) b.connections; messages = messages; phases = slice_set b.phases c.client.0 p })
removed-keeps s limit b c p messages h paired fits =
    let change : (q : OpenConnection → Bool) → count_by q (filter (λ d. not (d.serial == c.serial)) b.connections) + bit (q c) ≡ count_by q b.connections =
    out b c h.balanced.rising h.here in
    let a : ℕ = c.client.0 in
    let left : List OpenConnection = filter (λ d. not (d.serial == c.serial)) b.connections in
    record {
      within = λ x w. omega (arith, change (λ d. (d.client.0 == x) && (d.service == w)), h.balanced.within x w);
      paired = λ t. omega (arith, change (connection_marked t), paired t, h.balanced.paired t);
      called = h.called;
      rising = rises-filter 0 b.connections_made (λ d. not (d.serial == c.serial)) b.connections h.balanced.rising;
      fitting = fitting-set b.phases a p
          (awaited_by b.connections b.messages) (awaited_by left messages)
          (asked_by b.connections b.messages) (asked_by left messages)
          (λ x n. count_by (accepted_as x n) b.connections) (λ x n. count_by (accepted_as x n) left)
          h.client fits
          (λ x e. omega (arith, h.calls x, change (awaited_of x), off_left (a == x) (is_awaited c.phase) (flipped x a e)))
          (λ x e. omega (arith, h.calls x, change (asking_of x), off_left (a == x) (is_asking c.phase) (flipped x a e)))
          (λ x n e. omega (arith, change (accepted_as x n), off_right (c.serial == n) ((a == x) && is_accepted c.phase) (and_left (a == x) (is_accepted c.phase) (flipped x a e))))
          h.balanced.fitting;
      shown = omega (
        arith,
        h.balanced.shown,
        count-out (λ d. d.serial == c.serial) (wrongly_shown b.phases) (wrongly_shown (slice_set b.phases a p))
            (λ y e. ap (λ k. not (same (is_none y.handle) (is_opening y.phase || k)))
            (joining-other b.phases a c.serial y.serial y.client.0 p h.client h.joined h.joins e))
            b.connections c (serial-once 0 b.connections_made c.serial b.connections h.balanced.rising) h.here,
      );
      handles = λ k. omega (arith, change (λ d. has_handle d.handle k), h.handles k, h.balanced.handles k);
      single = h.balanced.single;
    }

-- an actor's phase changes, and messages without a connection come or go with it
pub record Sends (s : System) (limit : Handle → ℕ) (b : SpmState) (a : ℕ) (p : ActorPhase) (messages : List PendingMessage) : Type 0 where
  pub balanced : Balanced s limit b
  pub client : a < length b.phases
  pub joined : (k : ℕ) → is_joining (phase_of b a) k ≡ false
  pub joins : (k : ℕ) → is_joining p k ≡ false
  pub handles : (k : Handle) → count_by (λ m. has_handle m.handle k) messages ≤ count_by (λ m. has_handle m.handle k) b.messages
  pub paired : (t : Mark) → count_by (message_marked t) messages ≡ count_by (message_marked t) b.messages
  pub others : (x : ℕ) → (x == a) ≡ false → count_by (called_by x) messages ≡ count_by (called_by x) b.messages
  pub called : count_by (wrongly_called s) messages ≡ 0

pub sent-keeps : (s : System) (limit : Handle → ℕ) (b : SpmState) (a : ℕ) (p : ActorPhase) (messages : List PendingMessage) → Sends s limit b a p messages
    → PhaseFits p (awaited_by b.connections messages a) (asked_by b.connections messages a) (λ n. count_by (accepted_as a n) b.connections)
    → Balanced s limit (record b { messages = messages; phases = slice_set b.phases a p })
sent-keeps s limit b a p messages h fits = record {
  within = h.balanced.within;
  paired = λ t. h.paired t ∙ h.balanced.paired t;
  called = h.called;
  rising = h.balanced.rising;
  fitting = fitting-set b.phases a p
      (awaited_by b.connections b.messages) (awaited_by b.connections messages)
      (asked_by b.connections b.messages) (asked_by b.connections messages)
      (λ x n. count_by (accepted_as x n) b.connections) (λ x n. count_by (accepted_as x n) b.connections)
      h.client fits (λ x e. omega (arith, h.others x e)) (λ x e. omega (arith, h.others x e)) (λ x n e. refl) h.balanced.fitting;
  shown = count-ext (wrongly_shown (slice_set b.phases a p)) (wrongly_shown b.phases)
      (λ d. ap (λ k. not (same (is_none d.handle) (is_opening d.phase || k))) (joining-set b.phases a d.serial d.client.0 p h.client (h.joined d.serial) (h.joins d.serial))) b.connections
      ∙ h.balanced.shown;
  handles = λ k. omega (arith, h.handles k, h.balanced.handles k);
  single = h.balanced.single;
}

-- an actor's phase changes alone
pub phased-keeps : (s : System) (limit : Handle → ℕ) (b : SpmState) (a : ℕ) (p : ActorPhase) → Balanced s limit b → a < length b.phases
    → ((k : ℕ) → is_joining (phase_of b a) k ≡ false) → ((k : ℕ) → is_joining p k ≡ false)
    → PhaseFits p (awaited_by b.connections b.messages a) (asked_by b.connections b.messages a) (λ n. count_by (accepted_as a n) b.connections)
    → Balanced s limit (record b { phases = slice_set b.phases a p })
phased-keeps s limit b a p h inside old new fits =
    sent-keeps s limit b a p b.messages
    (record { balanced = h; client = inside; joined = old; joins = new; handles = λ k. omega arith; paired = λ t. refl; others = λ x e. refl; called = h.called })
    fits
