-- Each kind of change keeps the balance.
use Rattle.std.proofs.Common.{ℕ, ◌≡◌, ◌<◌, ◌≤◌, ◌+◌, ◌==◌, Bool, true, false, cond, not, ◌&&◌, List, [], ◌∷◌, ◌++◌, length, get_or, arith, ◌∙◌, ap, sym, refl, subst}
use Rattle.std.specs.Prelude.{ℤ, pos, int_le, int_lt, count_by, Some, None, map, slice_set}
use Rattle.std.specs.Option.{option_map_or}
use Rattle.std.specs.Ordering.{int_eq}
use Rattle.std.proofs.lemmas.Bool.{and_parts, eqb-true}
use Rattle.law_lists.proofs.Counts.{bit, count-map-same, count-push}
use Rattle.law_lists.proofs.Tests.{find-passes}
use Rattle.ffm_model.specs.declared.constants.TheConstants.{PSA_IPC_CALL, PSA_IPC_CONNECT, PSA_ERROR_PROGRAMMER_ERROR, PSA_ERROR_COMMUNICATION_FAILURE}
use Rattle.ffm_model.specs.declared.system.System.{System}
use Rattle.ffm_model.specs.declared.machine.Handle.{Handle}
use Rattle.ffm_model.specs.declared.machine.Call.{Call}
use Rattle.ffm_model.specs.declared.machine.Outcome.{Outcome}
use Rattle.ffm_model.specs.declared.machine.Outcome.TheVariants.{Value, Blocked as Blocks}
use Rattle.ffm_model.specs.declared.objects.Vectors.{Vectors}
use Rattle.ffm_model.specs.declared.objects.SourceFlags.{SourceFlags}
use Rattle.ffm_model.specs.declared.objects.OpenConnection.{OpenConnection}
use Rattle.ffm_model.specs.declared.objects.PendingMessage.{PendingMessage}
use Rattle.ffm_model.specs.declared.objects.ConnPhase.{ConnPhase}
use Rattle.ffm_model.specs.declared.objects.ConnPhase.TheVariants.{Idle, Error, Busy}
use Rattle.ffm_model.specs.declared.objects.ActorPhase.{ActorPhase}
use Rattle.ffm_model.specs.declared.objects.ActorPhase.TheVariants.{Running, Blocked, Waiting, Ready, Ended}
use Rattle.ffm_model.specs.Actors.{is_stateless, permits}
use Rattle.ffm_model.specs.State.{SpmState, phase_of, in_use, has_handle, rhandle_put, with_rhandle, phase_put, connection_held, message_held, with_phase, with_request, without_message}
use Rattle.ffm_model.specs.Panic.{is_dead, panic_effect}
use Rattle.ffm_model.specs.ClientCalls.{Move, move, call_on, call_to, is_service_panicked}
use Rattle.ffm_model.specs.ServiceCalls.{connect_answered, close_answered, with_request_phase}
use Rattle.ffm_model.proofs.SerialLemmas.{rises-map}
use Rattle.law_counting.specs.Objects.{PhaseFits, is_joining, allowed, awaited_by, called_by, wrongly_called, awaited_of, asking_of, accepted_as, wrongly_shown, message_marked, connection_marked}
use Rattle.law_counting.proofs.Balance.{Balanced}
use Rattle.law_counting.proofs.Parts.{fits_same, is_there, phase_same, flipped, is_itself, running-quiet}
use Rattle.law_counting.proofs.Updates.{phased-keeps, sent-keeps}
use Rattle.law_counting.proofs.Connect.{connected-keeps}
use Rattle.law_counting.proofs.Close.{close-keeps, sent-own}
use Rattle.law_counting.proofs.Reply.{settled, request_settled, settled-keeps, request-blocked, request-phases, not_negative}
use Rattle.law_counting.proofs.Resume.{times, named-keeps, delivered-keeps, vectors-keep, put-same}
use Rattle.law_counting.proofs.Panic.{panic-keeps}
use Rattle.law_counting.proofs.Events.{EachKind}

-- parts that do not count
pub beside : (s : System) (limit : Handle → ℕ) (b : SpmState) (doorbells : List Bool) (sources : List SourceFlags) → Balanced s limit b → Balanced s limit (record b { doorbells = doorbells; sources = sources })
beside s limit b doorbells sources h = record { within = h.within; paired = h.paired; called = h.called; rising = h.rising; fitting = h.fitting; shown = h.shown; handles = h.handles; single = h.single }

-- a Running actor's phase becomes one that waits for nothing of a connection
pub phase-keeps : (s : System) (limit : Handle → ℕ) (b : SpmState) (a : ℕ) (p : ActorPhase) → Balanced s limit b → phase_of b a ≡ Running → ((k : ℕ) → is_joining p k ≡ false)
    → ((n k : ℕ) (j : ℕ → ℕ) → n ≡ 0 → PhaseFits p n k j) → Balanced s limit (with_phase b a p)
phase-keeps s limit b a p h running new fits =
    phased-keeps s limit b a p h (is_there b.phases a (λ e. cc)) (λ k. ap (λ q. is_joining q k) running) new
    (fits _ _ _ (running-quiet (phase_of b a) _ _ (λ n. count_by (accepted_as a n) b.connections) running (h.fitting a)))

-- Invoke
invoke-own : (s : System) (limit : Handle → ℕ) (b : SpmState) (h : Handle) (c : OpenConnection) (n : ℕ) (v : Vectors) → Balanced s limit b → phase_of b c.client.0 ≡ Running
    → connection_held b c.client.0 h ≡ Some c → Balanced s limit (call_on b c.client.0 c (pos n) v).spm
invoke-own s limit b h c n v balanced running held =
    let m : PendingMessage = record { service = c.service; client = c.client; connection = Some c.serial; kind = pos n; vectors = v; handle = None } in
    let go : (d : Bool) → Balanced s limit (cond {A = Move} d (move (Value PSA_ERROR_COMMUNICATION_FAILURE) b) (record { outcome = Blocks; spm = record b { connections = map (phase_put c.serial Busy) b.connections; messages = b.messages ++ m ∷ []; phases = slice_set b.phases c.client.0 Blocked } })).spm =
    elim [ true ↦ balanced | false ↦ sent-own s limit b h c (pos n) v balanced running held refl refl ] in
    go (is_dead c.phase)

pub invoke-keeps : (s : System) (limit : Handle → ℕ) (b : SpmState) (a : ℕ) (h : Handle) (c : OpenConnection) (n : ℕ) (v : Vectors) → Balanced s limit b → phase_of b a ≡ Running
    → connection_held b a h ≡ Some c → Balanced s limit (call_on b a c (pos n) v).spm
invoke-keeps s limit b a h c n v balanced running held =
    let mine : c.client.0 ≡ a = eqb-true c.client.0 a (and_parts (c.client.0 == a) (has_handle c.handle h) (find-passes (λ d. (d.client.0 == a) && has_handle d.handle h) b.connections c held)).0 in
    subst (λ (x : ℕ). Balanced s limit (call_on b x c (pos n) v).spm) mine
    (invoke-own s limit b h c n v balanced (subst (λ (x : ℕ). phase_of b x ≡ Running) (sym mine) running) (subst (λ (x : ℕ). connection_held b x h ≡ Some c) (sym mine) held))

-- SetRhandle
serial-rhandle_put : (n r : ℕ) (c : OpenConnection) → (rhandle_put n r c).serial ≡ c.serial
serial-rhandle_put n r c =
    let go : (b : Bool) → (cond b (record c { rhandle = r }) c).serial ≡ c.serial = elim [ true ↦ refl | false ↦ refl ] in
    go (c.serial == n)

pub rhandle-keeps : (s : System) (limit : Handle → ℕ) (b : SpmState) (n r : ℕ) → Balanced s limit b → Balanced s limit (with_rhandle b n r)
rhandle-keeps s limit b n r h =
    let after : List OpenConnection = map (rhandle_put n r) b.connections in
    let blind : (q : OpenConnection → Bool) → ((c : OpenConnection) → q (record c { rhandle = r }) ≡ q c) → count_by q after ≡ count_by q b.connections =
    λ q z. count-map-same q (rhandle_put n r) (put-same (λ c. c.serial == n) q (λ c. record c { rhandle = r }) z) b.connections in
    record {
      within = λ x w. omega (arith, h.within x w, blind (λ c. (c.client.0 == x) && (c.service == w)) (λ c. refl));
      paired = λ t. h.paired t ∙ sym (blind (connection_marked t) (λ c. refl));
      called = h.called;
      rising = rises-map 0 b.connections_made (rhandle_put n r) (serial-rhandle_put n r) b.connections h.rising;
      fitting = λ a. fits_same (phase_of b a) _ _ _ _ _ (λ m. count_by (accepted_as a m) after) (ap (λ n. n + count_by (called_by a) b.messages) (blind (awaited_of a) (λ c. refl))) (ap (λ n. n + count_by (called_by a) b.messages) (blind (asking_of a) (λ c. refl))) (λ m. blind (accepted_as a m) (λ c. refl)) (h.fitting a);
      shown = blind (wrongly_shown b.phases) (λ c. refl) ∙ h.shown;
      handles = λ k. omega (arith, h.handles k, blind (λ c. has_handle c.handle k) (λ c. refl));
      single = h.single;
    }

request_kind : (n : ℕ) → int_le (pos 0) (pos n) ≡ true
request_kind n = grind arith

pub ready-quiet : (p : ActorPhase) (o : Outcome) (n k : ℕ) (j : ℕ → ℕ) → p ≡ Ready o → PhaseFits p n k j → n ≡ 0
ready-quiet p o n k j e h = subst (λ (q : ActorPhase). PhaseFits q n k j) e h

waiting-quiet : (p : ActorPhase) (m n k : ℕ) (j : ℕ → ℕ) → p ≡ Waiting m → PhaseFits p n k j → n ≡ 0
waiting-quiet p m n k j e h = subst (λ (q : ActorPhase). PhaseFits q n k j) e h

-- an answered request leaves its client Ready
pub request-ready : (s : System) (limit : Handle → ℕ) (b : SpmState) (p : ℕ) (h : Handle) (status : ℤ) (m : PendingMessage) (n : ℕ) → Balanced s limit b → message_held s b p h ≡ Some m → m.kind ≡ pos n
    → (o : Outcome) × (phase_of (settled b h status m) m.client.0 ≡ Ready o)
request-ready s limit b p h status m n balanced found e =
    let rest : SpmState = without_message b h in
    let blocked : phase_of b m.client.0 ≡ Blocked = request-blocked s limit b _ m n balanced found e in
    let inside : m.client.0 < length b.phases = is_there b.phases m.client.0 (λ x. cc) in
    let set_to : (ph : ConnPhase) (o : Outcome) → phase_of (with_phase (with_request_phase rest m ph) m.client.0 (Ready o)) m.client.0 ≡ Ready o =
    λ ph o. ap (λ (ps : List ActorPhase). get_or (slice_set ps m.client.0 (Ready o)) m.client.0 Ended) (request-phases rest m ph) ∙ phase_same b.phases m.client.0 (Ready o) inside in
    let either : (x : Bool) → (o : Outcome) × (phase_of (cond {A = SpmState} x (with_phase (with_request_phase rest m Error) m.client.0 (Ready (Value PSA_ERROR_PROGRAMMER_ERROR)))
    (with_phase (with_request_phase rest m Idle) m.client.0 (Ready (Value status)))) m.client.0 ≡ Ready o) =
    elim [ true ↦ (Value PSA_ERROR_PROGRAMMER_ERROR, set_to Error (Value PSA_ERROR_PROGRAMMER_ERROR)) | false ↦ (Value status, set_to Idle (Value status)) ] in
    let A : SpmState = option_map_or (λ k. connect_answered rest k m status) m.connection rest in
    let C : SpmState = option_map_or (λ k. close_answered rest k m) m.connection rest in
    let answer : ℤ → SpmState = λ z. cond {A = SpmState} (int_eq z PSA_IPC_CONNECT) A (cond {A = SpmState} (int_lt z PSA_IPC_CALL) C (request_settled rest m status)) in
    let request : cond {A = SpmState} (int_lt (pos n) PSA_IPC_CALL) C (request_settled rest m status) ≡ request_settled rest m status =
    ap (λ (x : Bool). cond {A = SpmState} x C (request_settled rest m status)) (not_negative n) in
    let at_kind : answer m.kind ≡ request_settled rest m status = ap answer e ∙ request in
    let now = either (int_eq status PSA_ERROR_PROGRAMMER_ERROR) in
    (now.0, subst (λ (x : SpmState). phase_of x m.client.0 ≡ Ready now.0) (sym at_kind) now.1)

-- a request by a stateless handle
pub issued-keeps : (s : System) (limit : Handle → ℕ) (b : SpmState) (a v n : ℕ) (vs : Vectors) → Balanced s limit b → phase_of b a ≡ Running → is_stateless s v ≡ true → permits s a v ≡ true
    → Balanced s limit (with_phase (with_request b a v (pos n) vs) a Blocked)
issued-keeps s limit b a v n vs h running stateless may =
    let m : PendingMessage = record { service = v; client = record { 0 = a }; connection = None; kind = pos n; vectors = vs; handle = None } in
    let quiet : awaited_by b.connections b.messages a ≡ 0 = running-quiet (phase_of b a) _ _ (λ k. count_by (accepted_as a k) b.connections) running (h.fitting a) in
    let lawful : bit (wrongly_called s m) ≡ 0 =
    ap (λ (x : Bool). bit (not (int_le PSA_IPC_CALL (pos n) && (x && permits s a v)))) stateless ∙ ap (λ (x : Bool). bit (not (int_le PSA_IPC_CALL (pos n) && x))) may ∙ ap (λ (x : Bool). bit (not (x && true))) (request_kind n) in
    sent-keeps s limit b a Blocked (b.messages ++ m ∷ [])
    (record {
      balanced = h;
      client = is_there b.phases a (λ ended. cc);
      joined = λ k. ap (λ p. is_joining p k) running;
      joins = λ k. refl;
      handles = λ k. omega (arith, count-push (λ x. has_handle x.handle k) b.messages m);
      paired = λ t. omega (arith, count-push (message_marked t) b.messages m);
      others = λ x e. omega (arith, count-push (called_by x) b.messages m, ap bit (flipped x a e));
      called = omega (arith, count-push (wrongly_called s) b.messages m, h.called, lawful);
    })
    (omega (arith, quiet, count-push (called_by a) b.messages m, ap bit (is_itself a)))

pub asked-keeps : (s : System) (limit : Handle → ℕ) (b : SpmState) (a v n : ℕ) (vs : Vectors) → Balanced s limit b → phase_of b a ≡ Running → is_stateless s v ≡ true → permits s a v ≡ true → Balanced s limit (call_to s b a v (pos n) vs).spm
asked-keeps s limit b a v n vs h running stateless may =
    let go : (x : Bool) → Balanced s limit (cond {A = Move} x (move (Value PSA_ERROR_COMMUNICATION_FAILURE) b) (move Blocks (with_phase (with_request b a v (pos n) vs) a Blocked))).spm =
    elim [ true ↦ h | false ↦ issued-keeps s limit b a v n vs h running stateless may ] in
    go (is_service_panicked s b v)

-- a partition that was told Ready panics
pub owed-keeps : (s : System) (limit : Handle → ℕ) (b : SpmState) (p : ℕ) (h : Handle) (status : ℤ) (m : PendingMessage) (n : ℕ) → Balanced s limit b → message_held s b p h ≡ Some m → m.kind ≡ pos n
    → Balanced s limit (panic_effect s (settled b h status m) m.client.0)
owed-keeps s limit b p h status m n balanced found e =
    let told : SpmState = settled b h status m in
    let kept : Balanced s limit told = settled-keeps s limit b p h status m balanced found in
    let ready = request-ready s limit b p h status m n balanced found e in
    panic-keeps s limit told m.client.0 kept (is_there told.phases m.client.0 (λ x. let it : phase_of told m.client.0 ≡ Ready ready.0 = ready.1 in cc))
    (ready-quiet (phase_of told m.client.0) ready.0 _ _ (λ z. count_by (accepted_as m.client.0 z) told.connections) ready.1 (kept.fitting m.client.0))
    (λ z. ap (λ q. is_joining q z) ready.1)

pub less : (x y : ℕ) → x ≤ y → (x == y) ≡ false → x + 1 ≤ y
less x y le e = grind arith

-- the panic of a partition that runs
pub panics-keep : (s : System) (limit : Handle → ℕ) (b : SpmState) (a : ℕ) → Balanced s limit b → phase_of b a ≡ Running → Balanced s limit (panic_effect s b a)
panics-keep s limit b a h running =
    panic-keeps s limit b a h (is_there b.phases a (λ x. cc))
    (running-quiet (phase_of b a) _ _ (λ n. count_by (accepted_as a n) b.connections) running (h.fitting a)) (λ z. ap (λ q. is_joining q z) running)

-- each kind of change
pub kinds-balance : (s : System) (b : SpmState) (given : List Handle) (a : ℕ) (d : Call) → Balanced s (times given) b → EachKind s b given a d (λ o new all. Balanced s (times all) new)
kinds-balance s b given a d h =
    let wake : (p : ActorPhase) → phase_of b a ≡ p → (p ≡ Ended → ⊥) → ((k : ℕ) → is_joining p k ≡ false) → awaited_by b.connections b.messages a ≡ 0 → Balanced s (times given) (with_phase b a Running) =
    λ p e there free quiet.
    phased-keeps s (times given) b a Running h (is_there b.phases a (λ x. there (sym e ∙ x))) (λ k. ap (λ q. is_joining q k) e ∙ free k) (λ k. refl) quiet in
    record {
      beside = λ running o doorbells sources plain. beside s (times given) b doorbells sources h;
      waits = λ running mask. phase-keeps s (times given) b a (Waiting mask) h running (λ k. refl) (λ n k j e. e);
      ends = λ running. phase-keeps s (times given) b a Ended h running (λ k. refl) (λ n k j e. e);
      wakes = λ mask n e. wake (Waiting mask) e (λ x. cc) (λ k. refl) (waiting-quiet (phase_of b a) mask _ _ (λ k. count_by (accepted_as a k) b.connections) e (h.fitting a));
      returns = λ o e. wake (Ready o) e (λ x. cc) (λ k. refl) (ready-quiet (phase_of b a) o _ _ (λ k. count_by (accepted_as a k) b.connections) e (h.fitting a));
      joins = λ is n k e new. named-keeps s given b a n k h e new;
      connects = λ running v free. connected-keeps s (times given) b a v h running (less (in_use b a v) (allowed s a v) (h.within a v) free);
      calls = λ running k c n v held takes. invoke-keeps s (times given) b a k c n v h running held;
      asks = λ running v n vs stateless may. asked-keeps s (times given) b a v n vs h running stateless may;
      closes = λ running k c held. close-keeps s (times given) b a k c h running held;
      gets = λ running signal msg v is has first at k shown tells new. delivered-keeps s given b v k h new;
      moves = λ running o k v plain. vectors-keep s (times given) b k v h;
      marks = λ running n r. rhandle-keeps s (times given) b n r h;
      replies = λ running k status m held. settled-keeps s (times given) b a k status m h held;
      owes = λ running k status m n held kind. owed-keeps s (times given) b a k status m n h held kind;
      panics = λ running. panics-keep s (times given) b a h running;
    }
