-- How the phases of the actors change in an event: the actor's own as its outcome says, and another's only where it is told an answer or panics for a reply.
use Rattle.std.proofs.Common.{ℕ, zero, suc, ◌≡◌, ◌<◌, ◌==◌, Bool, true, false, cond, not, ◌&&◌, ◌||◌, List, length, get_or, ◌⊎◌, inl, inr, ◌∙◌, ap, sym, refl, subst}
use Rattle.std.specs.Prelude.{ℤ, pos, negsuc, int_lt, count_by, Option, Some, None, slice_set}
use Rattle.std.specs.Option.{option_map_or}
use Rattle.std.specs.Ordering.{int_eq}
use Rattle.ffm_model.specs.declared.constants.TheConstants.{PSA_IPC_CALL, PSA_IPC_CONNECT, PSA_SUCCESS, PSA_ERROR_PROGRAMMER_ERROR, PSA_ERROR_COMMUNICATION_FAILURE}
use Rattle.ffm_model.specs.declared.system.System.{System}
use Rattle.ffm_model.specs.declared.machine.Handle.{Handle}
use Rattle.ffm_model.specs.declared.machine.Call.{Call}
use Rattle.ffm_model.specs.declared.machine.Outcome.{Outcome}
use Rattle.ffm_model.specs.declared.machine.Outcome.TheVariants as outcome
use Rattle.ffm_model.specs.declared.objects.PendingMessage.{PendingMessage}
use Rattle.ffm_model.specs.declared.objects.ConnPhase.{ConnPhase}
use Rattle.ffm_model.specs.declared.objects.ConnPhase.TheVariants.{Idle, Error}
use Rattle.ffm_model.specs.declared.objects.ActorPhase.{ActorPhase}
use Rattle.ffm_model.specs.declared.objects.ActorPhase.TheVariants.{Running, Blocked, Waiting, Ready, Connected, Ended, Panicked}
use Rattle.ffm_model.specs.State.{SpmState, phase_of, with_phase, with_request, message_held, with_connection_phase, without_connection, without_message}
use Rattle.ffm_model.specs.Signals.{is_blocked, is_panicked}
use Rattle.ffm_model.specs.Panic.{is_dead, panic_effect}
use Rattle.ffm_model.specs.ClientCalls.{Move, move, call_on, close_on, is_service_panicked}
use Rattle.ffm_model.specs.ServiceCalls.{connect_answered, close_answered, with_request_phase}
use Rattle.ffm_model.specs.Records.{is_blocked_outcome}
use Rattle.law_counting.specs.Objects.{phase_for, is_opening, is_asking, awaited_by, accepted_as}
use Rattle.law_counting.specs.Pending.{is_pending, is_panicked_outcome}
use Rattle.law_counting.proofs.Balance.{Balanced}
use Rattle.law_counting.proofs.Parts.{is_plain, is_there, same_or_not, phase_same, phase_other, running-quiet}
use Rattle.law_counting.proofs.Reply.{settled, request_settled, settled-keeps, partner, client-blocked, request-blocked, connected, not_negative, no-kind, opening_is}
use Rattle.law_counting.proofs.Resume.{times}
use Rattle.law_counting.proofs.Panic.{phase_after, told-self}
use Rattle.law_counting.proofs.Keeps.{request-ready, ready-quiet}
use Rattle.law_counting.proofs.Events.{EachKind}

-- an answer was told: an outcome that ends a call, or an accepted connection
abbrev pub is_told : ActorPhase → Bool
is_told (Ready o) = is_plain o
is_told (Connected c) = true
is_told _ = false

-- an answer that is there ends its call
abbrev pub is_sound : ActorPhase → Bool
is_sound (Ready o) = is_plain o
is_sound _ = true

-- another actor's phase stays, or it was Blocked and is told an answer, or it was Blocked and is panicked
abbrev pub Turned : ActorPhase → ActorPhase → Type 0
Turned p q = (p ≡ q) ⊎ ((p ≡ Blocked) × (is_told q ≡ true)) ⊎ ((p ≡ Blocked) × (q ≡ Panicked))

abbrev pub stays_as : (p q : ActorPhase) → p ≡ q → Turned p q
stays_as p q e = inl e

abbrev pub told_to : (p q : ActorPhase) → p ≡ Blocked → is_told q ≡ true → Turned p q
told_to p q e k = inr (inl (e, k))

abbrev pub panicked_to : (p q : ActorPhase) → p ≡ Blocked → q ≡ Panicked → Turned p q
panicked_to p q e k = inr (inr (e, k))

-- the caller's phase goes with its outcome
abbrev pub goes_with : Outcome → ActorPhase → Bool
goes_with o p = is_pending p || (is_panicked p && not (is_panicked_outcome o))

pub record Turns (a : ℕ) (old new : SpmState) (o : Outcome) : Type 0 where
  pub own : is_blocked_outcome o ≡ goes_with o (phase_of new a)
  pub sound : is_sound (phase_of new a) ≡ true
  pub others : (x : ℕ) → (x == a) ≡ false → Turned (phase_of old x) (phase_of new x)

plain_ends : (o : Outcome) → is_plain o ≡ true → is_blocked_outcome o ≡ false
plain_ends outcome.Blocked e = cc
plain_ends outcome.Panicked e = cc
plain_ends _ e = refl

-- no phase changes
same-turns : (b new : SpmState) (a : ℕ) (o : Outcome) → phase_of b a ≡ Running → is_plain o ≡ true → new.phases ≡ b.phases → Turns a b new o
same-turns b new a o running plain e =
    let at : (x : ℕ) → phase_of new x ≡ phase_of b x = λ x. ap (λ (ps : List ActorPhase). get_or ps x Ended) e in
    let here : phase_of new a ≡ Running = at a ∙ running in
    record {
      own = plain_ends o plain ∙ sym (ap (goes_with o) here);
      sound = ap is_sound here;
      others = λ x k. stays_as _ _ (sym (at x));
    }

-- the caller's phase alone changes
set-turns : (b new : SpmState) (a : ℕ) (o : Outcome) (p : ActorPhase) → (phase_of b a ≡ Ended → ⊥) → is_blocked_outcome o ≡ goes_with o p → is_sound p ≡ true → new.phases ≡ slice_set b.phases a p → Turns a b new o
set-turns b new a o p there own sound e =
    let at : (x : ℕ) → phase_of new x ≡ get_or (slice_set b.phases a p) x Ended = λ x. ap (λ (ps : List ActorPhase). get_or ps x Ended) e in
    let here : phase_of new a ≡ p = at a ∙ phase_same b.phases a p (is_there b.phases a there) in
    record {
      own = own ∙ sym (ap (goes_with o) here);
      sound = ap is_sound here ∙ sound;
      others = λ x k. stays_as _ _ (sym (at x ∙ phase_other b.phases a x p k));
    }

-- what a reply makes of a state: the connection, where there is one, gets a phase or goes, and the client, where it waits, is told
pub settled-cases : (s : System) (limit : Handle → ℕ) (b : SpmState) (p : ℕ) (h : Handle) (status : ℤ) (m : PendingMessage) → Balanced s limit b → message_held s b p h ≡ Some m → (P : SpmState → Type 0)
    → ((n : ℕ) (ph : ConnPhase) (q : ActorPhase) → phase_of b m.client.0 ≡ Blocked → is_told q ≡ true → P (with_phase (with_connection_phase (without_message b h) n ph) m.client.0 q))
    → ((n : ℕ) (q : ActorPhase) → phase_of b m.client.0 ≡ Blocked → is_told q ≡ true → P (with_phase (without_connection (without_message b h) n) m.client.0 q))
    → ((n : ℕ) → P (without_connection (without_message b h) n))
    → ((q : ActorPhase) → phase_of b m.client.0 ≡ Blocked → is_told q ≡ true → P (with_phase (without_message b h) m.client.0 q))
    → P (settled b h status m)
settled-cases s limit b p h status m balanced found P kept gone silent called =
    let rest : SpmState = without_message b h in
    let connect : (n : ℕ) → m.connection ≡ Some n → m.kind ≡ negsuc 0 → P (connect_answered rest n m status) =
    λ n conn e.
    let it = partner s limit b _ n m is_opening balanced found conn (ap (λ k. is_opening (phase_for k)) e) in
    let blocked : phase_of b m.client.0 ≡ Blocked = subst (λ (x : ℕ). phase_of b x ≡ Blocked) it.1.client (client-blocked s limit b it.0 balanced it.1.here (ap is_asking (opening_is it.0.phase it.1.passes))) in
    let go : (d : Bool) → P (cond {A = SpmState} d (with_phase (with_connection_phase rest n Idle) m.client.0 (Connected n)) (with_phase (without_connection rest n) m.client.0 (Ready (outcome.Value status)))) =
    elim [ true ↦ kept n Idle (Connected n) blocked refl | false ↦ gone n (Ready (outcome.Value status)) blocked refl ] in
    go (int_eq status PSA_SUCCESS) in
    let request : (n : ℕ) → m.kind ≡ pos n → P (request_settled rest m status) =
    λ n e.
    let blocked : phase_of b m.client.0 ≡ Blocked = request-blocked s limit b _ m n balanced found e in
    let either : (ph : ConnPhase) (q : ActorPhase) → is_told q ≡ true → P (with_phase (with_request_phase rest m ph) m.client.0 q) =
    λ ph q told.
    let on : (o : Option ℕ) → P (with_phase (option_map_or (λ k. with_connection_phase rest k ph) o rest) m.client.0 q) = elim [ None ↦ called q blocked told | Some k ↦ kept k ph q blocked told ] in
    on m.connection in
    let go : (d : Bool) → P (cond {A = SpmState} d (with_phase (with_request_phase rest m Error) m.client.0 (Ready (outcome.Value PSA_ERROR_PROGRAMMER_ERROR))) (with_phase (with_request_phase rest m Idle) m.client.0 (Ready (outcome.Value status)))) =
    elim [ true ↦ either Error (Ready (outcome.Value PSA_ERROR_PROGRAMMER_ERROR)) refl | false ↦ either Idle (Ready (outcome.Value status)) refl ] in
    go (int_eq status PSA_ERROR_PROGRAMMER_ERROR) in
    let close : (n : ℕ) → P (close_answered rest n m) =
    λ n.
    let go : (q : ActorPhase) → phase_of b m.client.0 ≡ q → P (cond {A = SpmState} (is_blocked q) (with_phase (without_connection rest n) m.client.0 (Ready outcome.Done)) (without_connection rest n)) =
    elim [
      | Blocked ↦ λ e. gone n (Ready outcome.Done) e refl
      | Running ↦ λ e. silent n
      | Waiting mask ↦ λ e. silent n
      | Ready o ↦ λ e. silent n
      | Connected c ↦ λ e. silent n
      | Ended ↦ λ e. silent n
      | Panicked ↦ λ e. silent n
    ] in
    go (phase_of b m.client.0) refl in
    let on : (f : ℕ → SpmState) (k : ℕ) → m.kind ≡ negsuc k → ((n : ℕ) → m.connection ≡ Some n → P (f n)) → P (option_map_or f m.connection rest) =
    λ f k e keeps.
    let go : (o : Option ℕ) → m.connection ≡ o → P (option_map_or f o rest) = elim [ None ↦ λ none. absurd (connected s limit b _ m k balanced found e none) | Some n ↦ λ conn. keeps n conn ] in
    go m.connection refl in
    let second : (x : Bool) (y z : SpmState) → x ≡ false → P z → P (cond {A = SpmState} x y z) = elim [ true ↦ λ y z e q. cc | false ↦ λ y z e q. q ] in
    let A : SpmState = option_map_or (λ n. connect_answered rest n m status) m.connection rest in
    let C : SpmState = option_map_or (λ n. close_answered rest n m) m.connection rest in
    let whole : (k : ℤ) → m.kind ≡ k → P (cond {A = SpmState} (int_eq k PSA_IPC_CONNECT) A (cond {A = SpmState} (int_lt k PSA_IPC_CALL) C (request_settled rest m status))) =
    elim [
      | pos n ↦ λ e. second (int_lt (pos n) PSA_IPC_CALL) _ _ (not_negative n) (request n e)
      | negsuc n ↦ elim n as (λ (n : ℕ). m.kind ≡ negsuc n → P (cond {A = SpmState} (int_eq (negsuc n) PSA_IPC_CONNECT) A (cond {A = SpmState} (int_lt (negsuc n) PSA_IPC_CALL) C (request_settled rest m status)))) [
        | zero ↦ λ e. on (λ n. connect_answered rest n m status) 0 e (λ n conn. connect n conn e)
        | suc k ↦ elim k as (λ (k : ℕ). m.kind ≡ negsuc (suc k) → P (cond {A = SpmState} (int_eq (negsuc (suc k)) PSA_IPC_CONNECT) A (cond {A = SpmState} (int_lt (negsuc (suc k)) PSA_IPC_CALL) C (request_settled rest m status)))) [
          | zero ↦ λ e. on (λ n. close_answered rest n m) 1 e (λ n conn. close n)
          | suc j ↦ λ e. absurd (no-kind s limit b p j h m balanced found e)
        ]
      ]
    ] in
    whole m.kind refl

-- another actor is told
told-turns : (b new : SpmState) (a x : ℕ) (q : ActorPhase) → phase_of b a ≡ Running → phase_of b x ≡ Blocked → is_told q ≡ true → new.phases ≡ slice_set b.phases x q → Turns a b new outcome.Done
told-turns b new a x q running blocked told e =
    let at : (y : ℕ) → phase_of new y ≡ get_or (slice_set b.phases x q) y Ended = λ y. ap (λ (ps : List ActorPhase). get_or ps y Ended) e in
    let apart : (a == x) ≡ false = same_or_not a x ((a == x) ≡ false) (λ k. absurd (let it : phase_of b x ≡ Running = ap (phase_of b) (sym k) ∙ running in cc)) (λ k. k) in
    let here : phase_of new a ≡ Running = at a ∙ phase_other b.phases x a q apart ∙ running in
    record {
      own = sym (ap (goes_with outcome.Done) here);
      sound = ap is_sound here;
      others = λ y k. same_or_not y x (Turned (phase_of b y) (phase_of new y))
          (λ z. told_to _ _ (ap (phase_of b) z ∙ blocked) (ap is_told (ap (phase_of new) z ∙ at x ∙ phase_same b.phases x q (is_there b.phases x (λ w. cc))) ∙ told))
          (λ z. stays_as _ _ (sym (at y ∙ phase_other b.phases x y q z)));
    }

-- the panic of an actor that awaits no answer
pub panicked-self : (s : System) (limit : Handle → ℕ) (b : SpmState) (p : ℕ) → Balanced s limit b → p < length b.phases → awaited_by b.connections b.messages p ≡ 0 → phase_of (panic_effect s b p) p ≡ Panicked
panicked-self s limit b p h inside quiet = told-self s b p inside quiet

pub panicked-other : (s : System) (limit : Handle → ℕ) (b : SpmState) (p x : ℕ) → Balanced s limit b → (x == p) ≡ false → Turned (phase_of b x) (phase_of (panic_effect s b p) x)
panicked-other s limit b p x h e =
    phase_after s limit b p x (Turned (phase_of b x) (phase_of (panic_effect s b p) x)) h e
    (λ z now. stays_as _ _ (sym now))
    (λ o blocked one now plain. told_to _ _ blocked (ap is_told now ∙ plain))
    (λ gone now. stays_as _ _ (gone ∙ sym now))

-- its own panic, of an actor that runs
pub running-panicked : (s : System) (limit : Handle → ℕ) (b : SpmState) (a : ℕ) → Balanced s limit b → phase_of b a ≡ Running → phase_of (panic_effect s b a) a ≡ Panicked
running-panicked s limit b a h running =
    panicked-self s limit b a h (is_there b.phases a (λ x. cc)) (running-quiet (phase_of b a) _ _ (λ n. count_by (accepted_as a n) b.connections) running (h.fitting a))

-- the panic that a reply owes
pub owed-panicked : (s : System) (limit : Handle → ℕ) (b : SpmState) (a : ℕ) (h : Handle) (status : ℤ) (m : PendingMessage) (n : ℕ) → Balanced s limit b → message_held s b a h ≡ Some m → m.kind ≡ pos n
    → phase_of (panic_effect s (settled b h status m) m.client.0) m.client.0 ≡ Panicked
owed-panicked s limit b a h status m n balanced found kind =
    let x : ℕ = m.client.0 in
    let told : SpmState = settled b h status m in
    let kept : Balanced s limit told = settled-keeps s limit b a h status m balanced found in
    let ready = request-ready s limit b a h status m n balanced found kind in
    panicked-self s limit told x kept (is_there told.phases x (λ w. let at : phase_of told x ≡ Ready ready.0 = ready.1 in cc))
    (ready-quiet (phase_of told x) ready.0 _ _ (λ z. count_by (accepted_as x z) told.connections) ready.1 (kept.fitting x))

-- one that runs goes on
panicked-running : (s : System) (limit : Handle → ℕ) (b : SpmState) (p x : ℕ) → Balanced s limit b → (x == p) ≡ false → phase_of b x ≡ Running → phase_of (panic_effect s b p) x ≡ Running
panicked-running s limit b p x h e running =
    phase_after s limit b p x (phase_of (panic_effect s b p) x ≡ Running) h e
    (λ z now. now ∙ running)
    (λ o blocked one now plain. cc)
    (λ gone now. cc)

panic-turns : (s : System) (limit : Handle → ℕ) (b : SpmState) (a : ℕ) → Balanced s limit b → phase_of b a ≡ Running → Turns a b (panic_effect s b a) outcome.Panicked
panic-turns s limit b a h running =
    let here : phase_of (panic_effect s b a) a ≡ Panicked = running-panicked s limit b a h running in
    record {
      own = sym (ap (goes_with outcome.Panicked) here);
      sound = ap is_sound here;
      others = λ x e. panicked-other s limit b a x h e;
    }

-- a reply touches the phase of its client alone
pub settled-elsewhere : (s : System) (limit : Handle → ℕ) (b : SpmState) (p : ℕ) (h : Handle) (status : ℤ) (m : PendingMessage) → Balanced s limit b → message_held s b p h ≡ Some m → (x : ℕ) → (x == m.client.0) ≡ false
    → phase_of (settled b h status m) x ≡ phase_of b x
settled-elsewhere s limit b p h status m balanced found x e =
    settled-cases s limit b p h status m balanced found (λ new. phase_of new x ≡ phase_of b x)
    (λ n ph q blocked told. phase_other b.phases m.client.0 x q e) (λ n q blocked told. phase_other b.phases m.client.0 x q e) (λ n. refl) (λ q blocked told. phase_other b.phases m.client.0 x q e)

owed-turns : (s : System) (limit : Handle → ℕ) (b : SpmState) (a : ℕ) (h : Handle) (status : ℤ) (m : PendingMessage) (n : ℕ) → Balanced s limit b → phase_of b a ≡ Running → message_held s b a h ≡ Some m → m.kind ≡ pos n
    → Turns a b (panic_effect s (settled b h status m) m.client.0) outcome.Done
owed-turns s limit b a h status m n balanced running found kind =
    let x : ℕ = m.client.0 in
    let told : SpmState = settled b h status m in
    let kept : Balanced s limit told = settled-keeps s limit b a h status m balanced found in
    let blocked : phase_of b x ≡ Blocked = request-blocked s limit b _ m n balanced found kind in
    let apart : (a == x) ≡ false = same_or_not a x ((a == x) ≡ false) (λ k. absurd (let same : phase_of b x ≡ Running = ap (phase_of b) (sym k) ∙ running in cc)) (λ k. k) in
    let before : (y : ℕ) → (y == x) ≡ false → phase_of told y ≡ phase_of b y = settled-elsewhere s limit b a h status m balanced found in
    let here : phase_of (panic_effect s told x) a ≡ Running = panicked-running s limit told x a kept apart (before a apart ∙ running) in
    let gone : phase_of (panic_effect s told x) x ≡ Panicked = owed-panicked s limit b a h status m n balanced found kind in
    record {
      own = sym (ap (goes_with outcome.Done) here);
      sound = ap is_sound here;
      others = λ y e. same_or_not y x (Turned (phase_of b y) (phase_of (panic_effect s told x) y))
          (λ z. panicked_to _ _ (ap (phase_of b) z ∙ blocked) (ap (phase_of (panic_effect s told x)) z ∙ gone))
          (λ z. subst (λ (q : ActorPhase). Turned q (phase_of (panic_effect s told x) y)) (before y z) (panicked-other s limit told x y kept z));
    }

-- each kind of change, where the answers that are there end their calls
pub kinds-turn : (s : System) (b : SpmState) (given : List Handle) (a : ℕ) (d : Call) → Balanced s (times given) b → is_sound (phase_of b a) ≡ true → EachKind s b given a d (λ o new all. Turns a b new o)
kinds-turn s b given a d h sound =
    let runs : phase_of b a ≡ Running → phase_of b a ≡ Ended → ⊥ = λ running e. cc in
    record {
      beside = λ running o doorbells sources plain. same-turns b _ a o running plain refl;
      waits = λ running mask. set-turns b _ a outcome.Blocked (Waiting mask) (runs running) refl refl refl;
      ends = λ running. set-turns b _ a outcome.Done Ended (runs running) refl refl refl;
      wakes = λ mask n e. set-turns b _ a (outcome.Signals n) Running (λ k. cc) refl refl refl;
      returns = λ o e. set-turns b _ a o Running (λ k. cc) (plain_ends o (sym (ap is_sound e) ∙ sound)) refl refl;
      joins = λ is n k e new. set-turns b _ a (outcome.Value k.0) Running (λ z. cc) refl refl refl;
      connects = λ running v free. set-turns b _ a outcome.Blocked Blocked (runs running) refl refl refl;
      calls = λ running k c n v held takes.
          let go : (d : Bool) → (let m : Move = cond {A = Move} d (move (outcome.Value PSA_ERROR_COMMUNICATION_FAILURE) b) (call_on b a (record c { phase = Idle }) (pos n) v) in Turns a b m.spm m.outcome) =
          elim [ true ↦ same-turns b b a (outcome.Value PSA_ERROR_COMMUNICATION_FAILURE) running refl refl | false ↦ set-turns b _ a outcome.Blocked Blocked (runs running) refl refl refl ] in
          go (is_dead c.phase);
      asks = λ running v n vs stateless may.
          let go : (d : Bool) → (let m : Move = cond {A = Move} d (move (outcome.Value PSA_ERROR_COMMUNICATION_FAILURE) b) (move outcome.Blocked (with_phase (with_request b a v (pos n) vs) a Blocked)) in Turns a b m.spm m.outcome) =
          elim [ true ↦ same-turns b b a (outcome.Value PSA_ERROR_COMMUNICATION_FAILURE) running refl refl | false ↦ set-turns b _ a outcome.Blocked Blocked (runs running) refl refl refl ] in
          go (is_service_panicked s b v);
      closes = λ running k c held.
          let go : (d : Bool) → (let m : Move = cond {A = Move} d (move outcome.Done (without_connection b c.serial)) (close_on b a (record c { phase = Idle })) in Turns a b m.spm m.outcome) =
          elim [ true ↦ same-turns b (without_connection b c.serial) a outcome.Done running refl refl | false ↦ set-turns b _ a outcome.Blocked Blocked (runs running) refl refl refl ] in
          go (is_dead c.phase);
      gets = λ running signal msg v is has first at k shown tells new. same-turns b _ a (outcome.Got shown) running refl refl;
      moves = λ running o k v plain. same-turns b _ a o running plain refl;
      marks = λ running n r. same-turns b _ a outcome.Done running refl refl;
      replies = λ running k status m held.
          settled-cases s (times given) b a k status m h held (λ new. Turns a b new outcome.Done)
          (λ n ph q blocked told. told-turns b _ a m.client.0 q running blocked told refl) (λ n q blocked told. told-turns b _ a m.client.0 q running blocked told refl)
          (λ n. same-turns b _ a outcome.Done running refl refl) (λ q blocked told. told-turns b _ a m.client.0 q running blocked told refl);
      owes = λ running k status m n held kind. owed-turns s (times given) b a k status m n h running held kind;
      panics = λ running. panic-turns s (times given) b a h running;
    }
