-- Connect keeps the balance.
use Rattle.std.proofs.Common.{ℕ, ◌≡◌, ◌<◌, ◌≤◌, ◌+◌, ◌==◌, Bool, true, false, not, ◌&&◌, ◌||◌, [], ◌∷◌, ◌++◌, length, arith, ap, refl}
use Rattle.std.specs.Prelude.{count_by, Some, None, slice_set, is_none, negsuc}
use Rattle.std.proofs.lemmas.Bool.{and_left}
use Rattle.law_lists.proofs.Counts.{bit, count-ext, count-push}
use Rattle.ffm_model.specs.declared.system.System.{System}
use Rattle.ffm_model.specs.declared.machine.Handle.{Handle}
use Rattle.ffm_model.specs.declared.objects.OpenConnection.{OpenConnection}
use Rattle.ffm_model.specs.declared.objects.PendingMessage.{PendingMessage}
use Rattle.ffm_model.specs.declared.objects.ActorPhase.TheVariants.{Running, Blocked}
use Rattle.ffm_model.specs.Memory.{no_vectors}
use Rattle.law_counting.specs.Objects.{same}
use Rattle.ffm_model.specs.State.{SpmState, phase_of, in_use, has_handle}
use Rattle.ffm_model.specs.ClientCalls.{connect_issued, new_connection}
use Rattle.ffm_model.proofs.SerialLemmas.{rises-push}
use Rattle.law_counting.proofs.Balance.{Balanced}
use Rattle.law_counting.specs.Objects.{is_joining, is_opening, allowed, awaited_by, asked_by, called_by, wrongly_called, awaited_of, asking_of, accepted_as, wrongly_shown, message_marked, connection_marked}
use Rattle.law_counting.proofs.Parts.{is_there, fitting-set, joining-set, off_left, off_right, on_left, flipped, is_itself, running-quiet}

room_for : (g f : ℕ → ℕ → ℕ) (a v x w : ℕ) → g a v + 1 ≤ f a v → g x w ≤ f x w → g x w + bit ((a == x) && (v == w)) ≤ f x w
room_for g f a v x w room old =
    let both : (b c : Bool) → (a == x) ≡ b → (v == w) ≡ c → g x w + bit (b && c) ≤ f x w =
    elim [ true ↦ elim [ true ↦ λ e k. grind arith | false ↦ λ e k. omega arith ] | false ↦ λ c e k. omega arith ] in
    both (a == x) (v == w) refl refl

pub connected-keeps : (s : System) (limit : Handle → ℕ) (b : SpmState) (a v : ℕ) → Balanced s limit b → phase_of b a ≡ Running → in_use b a v + 1 ≤ allowed s a v → Balanced s limit (connect_issued b a v)
connected-keeps s limit b a v h running room =
    let c : OpenConnection = new_connection b a v in
    let m : PendingMessage = record { service = v; client = record { 0 = a }; connection = Some b.connections_made; kind = negsuc 0; vectors = no_vectors; handle = None } in
    let inside : a < length b.phases = is_there b.phases a (λ ended. cc) in
    let quiet : awaited_by b.connections b.messages a ≡ 0 = running-quiet (phase_of b a) _ _ (λ n. count_by (accepted_as a n) b.connections) running (h.fitting a) in
    record {
      within = λ x w. omega (arith, count-push (λ d. (d.client.0 == x) && (d.service == w)) b.connections c, room_for (in_use b) (allowed s) a v x w room (h.within x w));
      paired = λ t. omega (arith, count-push (message_marked t) b.messages m, count-push (connection_marked t) b.connections c, h.paired t);
      called = omega (arith, count-push (wrongly_called s) b.messages m, h.called);
      rising = rises-push 0 b.connections_made b.connections c h.rising refl;
      fitting = fitting-set b.phases a Blocked
          (awaited_by b.connections b.messages) (awaited_by (b.connections ++ c ∷ []) (b.messages ++ m ∷ []))
          (asked_by b.connections b.messages) (asked_by (b.connections ++ c ∷ []) (b.messages ++ m ∷ []))
          (λ x n. count_by (accepted_as x n) b.connections) (λ x n. count_by (accepted_as x n) (b.connections ++ c ∷ []))
          inside
          (omega (arith, quiet, count-push (called_by a) b.messages m, count-push (awaited_of a) b.connections c, on_left (a == a) true (is_itself a)))
          (λ x e. omega (arith, count-push (called_by x) b.messages m, count-push (awaited_of x) b.connections c, off_left (a == x) true (flipped x a e)))
          (λ x e. omega (arith, count-push (called_by x) b.messages m, count-push (asking_of x) b.connections c, off_left (a == x) true (flipped x a e)))
          (λ x n e. omega (arith, count-push (accepted_as x n) b.connections c, off_right (b.connections_made == n) ((a == x) && false) (and_left (a == x) false (flipped x a e))))
          h.fitting;
      shown = omega (
        arith,
        count-push (wrongly_shown (slice_set b.phases a Blocked)) b.connections c,
        count-ext (wrongly_shown (slice_set b.phases a Blocked)) (wrongly_shown b.phases)
            (λ d. ap (λ k. not (same (is_none d.handle) (is_opening d.phase || k)))
            (joining-set b.phases a d.serial d.client.0 Blocked inside (ap (λ p. is_joining p d.serial) running) refl)) b.connections,
        h.shown,
      );
      handles = λ k. omega (arith, count-push (λ n. has_handle n.handle k) b.messages m, count-push (λ d. has_handle d.handle k) b.connections c, h.handles k);
      single = h.single;
    }
