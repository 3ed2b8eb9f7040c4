-- Close keeps the balance.
use Rattle.std.proofs.Common.{ℕ, ◌≡◌, ◌<◌, ◌==◌, Bool, true, false, cond, not, ◌&&◌, List, [], ◌∷◌, ◌++◌, length, arith, ap, sym, refl, subst, ◌||◌, ◌∙◌}
use Rattle.std.specs.Prelude.{count_by, find, Option, Some, None, map, filter, slice_set, is_none, negsuc, ℤ}
use Rattle.std.proofs.lemmas.Bool.{and_parts, eqb-true}
use Rattle.law_lists.proofs.Counts.{bit, count-found, count-push}
use Rattle.law_lists.proofs.Tests.{find-passes}
use Rattle.ffm_model.specs.declared.system.System.{System}
use Rattle.ffm_model.specs.declared.machine.Handle.{Handle}
use Rattle.ffm_model.specs.declared.objects.OpenConnection.{OpenConnection}
use Rattle.ffm_model.specs.declared.objects.PendingMessage.{PendingMessage}
use Rattle.ffm_model.specs.declared.objects.ConnPhase.TheVariants.{Closing}
use Rattle.ffm_model.specs.declared.objects.ActorPhase.{ActorPhase}
use Rattle.ffm_model.specs.declared.objects.ActorPhase.TheVariants.{Running, Blocked}
use Rattle.ffm_model.specs.declared.machine.Outcome.TheVariants.{Done, Blocked as Blocks}
use Rattle.ffm_model.specs.Memory.{no_vectors}
use Rattle.ffm_model.specs.State.{SpmState, phase_of, has_handle, phase_put, connection_held, without_connection}
use Rattle.ffm_model.specs.ClientCalls.{close_on, Move}
use Rattle.ffm_model.specs.Panic.{is_dead}
use Rattle.law_counting.proofs.Balance.{Balanced}
use Rattle.law_counting.specs.Objects.{same, is_opening, phase_for, is_joining, is_awaited, awaited_by, called_by, wrongly_called, awaited_of, accepted_as, message_marked}
use Rattle.law_counting.proofs.Parts.{is_there, found-serial, off_left, on_left, is_itself, running-quiet, off_from, set_same}
use Rattle.law_counting.proofs.Updates.{put, out, moved-keeps, removed-keeps}
use Rattle.ffm_model.specs.declared.objects.ConnPhase.{ConnPhase}
use Rattle.ffm_model.specs.declared.objects.Vectors.{Vectors}

pub shown_some : (o : Option Handle) (h : Handle) → has_handle o h ≡ true → is_none o ≡ false
shown_some None h e = cc
shown_some (Some k) h e = refl

-- a connection whose client runs awaits no answer
unawaited : (s : System) (limit : Handle → ℕ) (b : SpmState) (h : Handle) (c : OpenConnection) → Balanced s limit b → phase_of b c.client.0 ≡ Running → connection_held b c.client.0 h ≡ Some c → bit (is_awaited c.phase) ≡ 0
unawaited s limit b h c balanced running held =
    let a : ℕ = c.client.0 in
    omega (
      arith,
      running-quiet (phase_of b a) _ _ (λ n. count_by (accepted_as a n) b.connections) running (balanced.fitting a),
      on_left (a == a) (is_awaited c.phase) (is_itself a),
      count-found (λ d. (d.client.0 == a) && has_handle d.handle h) (awaited_of a) b.connections c held,
    )

-- a message of a connection that awaits no answer is on its way, and its client waits
pub sent-own : (s : System) (limit : Handle → ℕ) (b : SpmState) (h : Handle) (c : OpenConnection) (k : ℤ) (v : Vectors) → Balanced s limit b → phase_of b c.client.0 ≡ Running → connection_held b c.client.0 h ≡ Some c
    → is_awaited (phase_for k) ≡ true → is_opening (phase_for k) ≡ false
    → Balanced s limit (record b { connections = map (phase_put c.serial (phase_for k)) b.connections; messages = b.messages ++ record { service = c.service; client = c.client; connection = Some c.serial; kind = k; vectors = v; handle = None } ∷ []; phases = slice_set b.phases c.client.0 Blocked })
sent-own s limit b h c k v balanced running held awaits shut =
    let a : ℕ = c.client.0 in
    let ph : ConnPhase = phase_for k in
    let quiet : awaited_by b.connections b.messages a ≡ 0 = running-quiet (phase_of b a) _ _ (λ n. count_by (accepted_as a n) b.connections) running (balanced.fitting a) in
    let own : bit (is_awaited c.phase) ≡ 0 = unawaited s limit b h c balanced running held in
    let known : is_none c.handle ≡ false = shown_some c.handle h (and_parts (a == a) (has_handle c.handle h) (find-passes (λ d. (d.client.0 == a) && has_handle d.handle h) b.connections c held)).1 in
    let here : find (λ d. d.serial == c.serial) b.connections ≡ Some c = found-serial 0 b.connections_made _ b.connections c balanced.rising held in
    let m : PendingMessage = record { service = c.service; client = c.client; connection = Some c.serial; kind = k; vectors = v; handle = None } in
    moved-keeps s limit b c ph Blocked (b.messages ++ m ∷ [])
    (record {
      balanced = balanced;
      here = here;
      client = is_there b.phases a (λ ended. cc);
      joined = λ n. ap (λ p. is_joining p n) running;
      joins = λ n x. refl;
      handles = λ n. omega (arith, count-push (λ x. has_handle x.handle n) b.messages m);
      calls = λ x. omega (arith, count-push (called_by x) b.messages m);
      called = omega (arith, count-push (wrongly_called s) b.messages m, balanced.called);
    })
    (λ t. omega (
      arith,
      off_left (is_awaited c.phase) (t c.serial c.client.0 c.service c.phase) (off_from _ own),
      on_left (is_awaited ph) (t c.serial c.client.0 c.service ph) awaits,
      count-push (message_marked t) b.messages m,
    ))
    (omega (arith, quiet, count-push (called_by a) b.messages m, put b c ph balanced.rising here (awaited_of a), on_left (a == a) (is_awaited c.phase) (is_itself a), on_left (a == a) (is_awaited ph) (is_itself a), ap bit awaits, own))
    (ap (λ x. same x (is_opening ph || false)) known ∙ ap (λ x. same false (x || false)) shut)

close-own : (s : System) (limit : Handle → ℕ) (b : SpmState) (h : Handle) (c : OpenConnection) → Balanced s limit b → phase_of b c.client.0 ≡ Running
    → connection_held b c.client.0 h ≡ Some c → Balanced s limit (close_on b c.client.0 c).spm
close-own s limit b h c balanced running held =
    let a : ℕ = c.client.0 in
    let inside : a < length b.phases = is_there b.phases a (λ ended. cc) in
    let quiet : awaited_by b.connections b.messages a ≡ 0 = running-quiet (phase_of b a) _ _ (λ n. count_by (accepted_as a n) b.connections) running (balanced.fitting a) in
    let own : bit (is_awaited c.phase) ≡ 0 = unawaited s limit b h c balanced running held in
    let here : find (λ d. d.serial == c.serial) b.connections ≡ Some c = found-serial 0 b.connections_made _ b.connections c balanced.rising held in
    let m : PendingMessage = record { service = c.service; client = c.client; connection = Some c.serial; kind = negsuc 1; vectors = no_vectors; handle = None } in
    let go : (d : Bool) → Balanced s limit (cond {A = Move} d (record { outcome = Done; spm = without_connection b c.serial }) (record { outcome = Blocks; spm = record b { connections = map (phase_put c.serial Closing) b.connections; messages = b.messages ++ m ∷ []; phases = slice_set b.phases a Blocked } })).spm =
    elim [
      | true ↦
          let still : slice_set b.phases a Running ≡ b.phases = set_same b.phases a Running running in
          subst (λ (ps : List ActorPhase). Balanced s limit (record b { connections = filter (λ d. not (d.serial == c.serial)) b.connections; phases = ps })) still
          (removed-keeps s limit b c Running b.messages
          (record { balanced = balanced; here = here; client = inside; joined = λ k. ap (λ p. is_joining p k) running; joins = λ k x. refl; handles = λ k. omega arith; calls = λ x. refl; called = balanced.called })
          (λ t. omega (arith, off_left (is_awaited c.phase) (t c.serial c.client.0 c.service c.phase) (off_from _ own)))
          (omega (arith, quiet, out b c balanced.rising here (awaited_of a))))
      | false ↦ sent-own s limit b h c (negsuc 1) no_vectors balanced running held refl refl
    ] in
    go (is_dead c.phase)

pub close-keeps : (s : System) (limit : Handle → ℕ) (b : SpmState) (a : ℕ) (h : Handle) (c : OpenConnection) → Balanced s limit b → phase_of b a ≡ Running
    → connection_held b a h ≡ Some c → Balanced s limit (close_on b a c).spm
close-keeps s limit b a h c balanced running held =
    let mine : c.client.0 ≡ a = eqb-true c.client.0 a (and_parts (c.client.0 == a) (has_handle c.handle h) (find-passes (λ d. (d.client.0 == a) && has_handle d.handle h) b.connections c held)).0 in
    subst (λ (x : ℕ). Balanced s limit (close_on b x c).spm) mine
    (close-own s limit b h c balanced (subst (λ (x : ℕ). phase_of b x ≡ Running) (sym mine) running) (subst (λ (x : ℕ). connection_held b x h ≡ Some c) (sym mine) held))
