-- The kinds of change that an event makes of a state, and that each event's effect is one of them; so a law that each kind keeps is one that each step keeps.
use Rattle.std.proofs.Common.{ℕ, ◌≡◌, ◌==◌, Bool, true, false, cond, not, ◌&&◌, ◌||◌, List, [], ◌∷◌, ◌++◌, ◌∙◌, ap, sym, refl, subst}
use Rattle.std.proofs.lemmas.List.Quantifiers.{position-Some}
use Rattle.std.specs.Prelude.{ℤ, pos, negsuc, int_lt, bit_and, nat_lt, nat_le, find, position, slice_get, Option, Some, None, option_and_then, is_none, if◌then◌else◌}
use Rattle.std.specs.List.{list_any}
use Rattle.std.specs.Option.{option_map, option_map_or}
use Rattle.std.specs.Ordering.{int_eq}
use Rattle.std.proofs.lemmas.Bool.{and_parts, eqb-true}
use Rattle.ffm_model.specs.declared.constants.TheConstants.{PSA_BLOCK, PSA_IPC_CONNECT, PSA_NULL_HANDLE, PSA_ERROR_CONNECTION_REFUSED, PSA_ERROR_CONNECTION_BUSY}
use Rattle.ffm_model.specs.declared.system.System.{System}
use Rattle.ffm_model.specs.declared.system.Service.{Service}
use Rattle.ffm_model.specs.declared.machine.Handle.{Handle}
use Rattle.ffm_model.specs.declared.machine.Sid.{Sid}
use Rattle.ffm_model.specs.declared.machine.Message.{Message}
use Rattle.ffm_model.specs.declared.machine.Call.{Call}
use Rattle.ffm_model.specs.declared.machine.Call.TheVariants as call
use Rattle.ffm_model.specs.declared.machine.Outcome.{Outcome}
use Rattle.ffm_model.specs.declared.machine.Outcome.TheVariants as outcome
use Rattle.ffm_model.specs.declared.objects.Vectors.{Vectors}
use Rattle.ffm_model.specs.declared.objects.SourceFlags.{SourceFlags}
use Rattle.ffm_model.specs.declared.objects.OpenConnection.{OpenConnection}
use Rattle.ffm_model.specs.declared.objects.PendingMessage.{PendingMessage}
use Rattle.ffm_model.specs.declared.objects.ActorPhase.{ActorPhase}
use Rattle.ffm_model.specs.declared.objects.ActorPhase.TheVariants.{Running, Waiting, Ready, Connected, Ended}
use Rattle.ffm_model.specs.Actors.{is_stateless, permits, service_at, stateless_at, stateless_index}
use Rattle.ffm_model.specs.Memory.{vectors_of, valid_buffer}
use Rattle.ffm_model.specs.State.{SpmState, State, handle_eq, phase_of, with_phase, in_use, connection_held, message_held, fresh, is_undelivered, delivered, with_vectors, with_rhandle, with_connection_handle}
use Rattle.ffm_model.specs.Signals.{enabled, can_go_on, may_resume, signals_of, has_signal_of, assigned_to}
use Rattle.ffm_model.specs.Panic.{panic_effect}
use Rattle.ffm_model.specs.ClientCalls.{Move, Effect, move, in_state, psa_connect, psa_call, psa_close, connect_to, connect_issued, connection_called, service_called, call_on, call_to, close_on, is_service_panicked, refuses_requests, is_busy, returned, takes_version}
use Rattle.ffm_model.specs.ServiceCalls.{psa_wait, psa_get, psa_reply, psa_skip, psa_read, psa_write, psa_set_rhandle, request_held, message_size, get_of, reply_of, replied, owes_panic, skip_of, read_of, write_of, rest_of, output_at, service_of_signal, is_connect_status}
use Rattle.ffm_model.specs.SignalCalls.{source_of_signal, interrupted}
use Rattle.ffm_model.specs.Calls.{call_case}
use Rattle.ffm_model.specs.Step.{may_call, returns_when_due, gives_handle}
use Rattle.law_counting.specs.Objects.{allowed}
use Rattle.law_counting.proofs.Parts.{is_plain}
use Rattle.law_counting.proofs.Resume.{fresh-new}
use Rattle.law_counting.proofs.Reply.{settled}
use Rattle.law_counting.proofs.Owed.{replied-settled, owed-settled, owed-request}
use Rattle.std.proofs.lemmas.Option.{slice_get-get_or}

-- what Q says of an effect: its outcome, its state but for memory, and the handles given
abbrev pub Says : (Outcome → SpmState → List Handle → Type 0) → Effect → Type 0
Says Q e = Q e.outcome e.state.spm e.state.handles_given

-- Q holds of each kind of change that the call d of the actor a makes
pub record EachKind (s : System) (b : SpmState) (given : List Handle) (a : ℕ) (d : Call) (Q : Outcome → SpmState → List Handle → Type 0) : Type 0 where
  -- doorbells and sources alone
  pub beside : phase_of b a ≡ Running → (o : Outcome) (doorbells : List Bool) (sources : List SourceFlags) → is_plain o ≡ true → Q o (record b { doorbells = doorbells; sources = sources }) given
  pub waits : phase_of b a ≡ Running → (mask : ℕ) → Q outcome.Blocked (with_phase b a (Waiting mask)) given
  pub ends : phase_of b a ≡ Running → Q outcome.Done (with_phase b a Ended) given
  pub wakes : (mask n : ℕ) → phase_of b a ≡ Waiting mask → Q (outcome.Signals n) (with_phase b a Running) given
  pub returns : (o : Outcome) → phase_of b a ≡ Ready o → Q o (with_phase b a Running) given
  pub joins : d ≡ call.Resume → (n : ℕ) (h : Handle) → phase_of b a ≡ Connected n → list_any (handle_eq h) given ≡ false
      → Q (outcome.Value h.0) (with_phase (with_connection_handle b n h) a Running) (given ++ h ∷ [])
  pub connects : phase_of b a ≡ Running → (v : ℕ) → (in_use b a v == allowed s a v) ≡ false → Q outcome.Blocked (connect_issued b a v) given
  pub calls : phase_of b a ≡ Running → (h : Handle) (c : OpenConnection) (n : ℕ) (v : Vectors) → connection_held b a h ≡ Some c → refuses_requests c.phase ≡ false → Q (call_on b a c (pos n) v).outcome (call_on b a c (pos n) v).spm given
  -- a request by a stateless handle to the service v
  pub asks : phase_of b a ≡ Running → (v n : ℕ) (vs : Vectors) → is_stateless s v ≡ true → permits s a v ≡ true → Q (call_to s b a v (pos n) vs).outcome (call_to s b a v (pos n) vs).spm given
  pub closes : phase_of b a ≡ Running → (h : Handle) (c : OpenConnection) → connection_held b a h ≡ Some c → Q (close_on b a c).outcome (close_on b a c).spm given
  pub gets : phase_of b a ≡ Running → (signal msg v : ℕ) → d ≡ call.Get signal msg → service_of_signal s a signal ≡ Some v → (first : PendingMessage) → find (is_undelivered v) b.messages ≡ Some first → (h : Handle) (shown : Message) → shown.handle ≡ h → list_any (handle_eq h) given ≡ false
      → Q (outcome.Got shown) (record b { messages = delivered v h b.messages }) (given ++ h ∷ [])
  pub moves : phase_of b a ≡ Running → (o : Outcome) (h : Handle) (v : Vectors) → is_plain o ≡ true → Q o (with_vectors b h v) given
  pub marks : phase_of b a ≡ Running → (n r : ℕ) → Q outcome.Done (with_rhandle b n r) given
  pub replies : phase_of b a ≡ Running → (h : Handle) (status : ℤ) (m : PendingMessage) → message_held s b a h ≡ Some m → Q outcome.Done (settled b h status m) given
  pub owes : phase_of b a ≡ Running → (h : Handle) (status : ℤ) (m : PendingMessage) (n : ℕ) → message_held s b a h ≡ Some m → m.kind ≡ pos n
      → Q outcome.Done (panic_effect s (settled b h status m) m.client.0) given
  pub panics : phase_of b a ≡ Running → Q outcome.Panicked (panic_effect s b a) given

-- P of the effect, where there is one
abbrev pub IfThere : Option Effect → (Effect → Type 0) → Type 0
IfThere None P = Unit {0}
IfThere (Some e) P = P e

-- an actor that makes a call, and not a return, is Running
running-from : (p : ActorPhase) (word : ℕ) → can_go_on p word ≡ true → not (may_resume p) ≡ true → p ≡ Running
running-from Running word e d = refl
running-from _ word e d = cc

pub caller-running : (s : System) (b : SpmState) (a : ℕ) (c : Call) → ((p : ActorPhase) → returns_when_due c p ≡ not (may_resume p)) → may_call s b a c ≡ true → phase_of b a ≡ Running
caller-running s b a c is_call may =
    let able : (enabled s b a && returns_when_due c (phase_of b a)) ≡ true = (and_parts _ _ may).1 in
    running-from (phase_of b a) (signals_of s b a) (and_parts _ _ able).0 (sym (is_call (phase_of b a)) ∙ (and_parts _ _ able).1)

-- psa_connect
connect-kind : (s : System) (b : SpmState) (given : List Handle) (a i : ℕ) (d : Call) (Q : Outcome → SpmState → List Handle → Type 0) → EachKind s b given a d Q → phase_of b a ≡ Running
    → Q (connect_to s b a i).outcome (connect_to s b a i).spm given
connect-kind s b given a i d Q k running =
    let go : (x y : Bool) → (in_use b a i == allowed s a i) ≡ y
    → (let m : Move = cond {A = Move} x (move (outcome.Value PSA_ERROR_CONNECTION_REFUSED) b) (cond {A = Move} y (move (outcome.Value PSA_ERROR_CONNECTION_BUSY) b) (move outcome.Blocked (connect_issued b a i))) in Q m.outcome m.spm given) =
    elim [
      | true ↦ λ y e. k.beside running (outcome.Value PSA_ERROR_CONNECTION_REFUSED) b.doorbells b.sources refl
      | false ↦ elim [ true ↦ λ e. k.beside running (outcome.Value PSA_ERROR_CONNECTION_BUSY) b.doorbells b.sources refl | false ↦ λ e. k.connects running i e ]
    ] in
    go (is_service_panicked s b i) (in_use b a i == allowed s a i) refl

-- a move of the state, where there is one
abbrev pub IfMoved : (Outcome → SpmState → List Handle → Type 0) → List Handle → Option Move → Type 0
IfMoved Q given None = Unit {0}
IfMoved Q given (Some m) = Q m.outcome m.spm given

moved : (st : State) (Q : Outcome → SpmState → List Handle → Type 0) (o : Option Move) → IfMoved Q st.handles_given o → IfThere (option_map (in_state st) o) (Says Q)
moved st Q None h = tt
moved st Q (Some m) h = h

pub connects : (s : System) (b : SpmState) (given : List Handle) (a : ℕ) (sid : Sid) (version : ℕ) (d : Call) (Q : Outcome → SpmState → List Handle → Type 0) → EachKind s b given a d Q → phase_of b a ≡ Running
    → IfMoved Q given (psa_connect s b a sid version)
connects s b given a sid version d Q k running =
    elim (service_at s sid) as (λ (o : Option ℕ). IfMoved Q given (option_and_then (λ i. if permits s a i && (not (is_stateless s i) && takes_version s i version) then Some (connect_to s b a i) else None) o)) [
      | None ↦ tt
      | Some i ↦ elim (permits s a i && (not (is_stateless s i) && takes_version s i version)) as (λ (x : Bool). IfMoved Q given (if x then Some (connect_to s b a i) else None)) [
        | true ↦ connect-kind s b given a i d Q k running
        | false ↦ tt
      ]
    ]

-- psa_call
kind_from : (kind : ℤ) (x : Bool) (P : Type 0) → (x || int_lt kind (pos 0)) ≡ false → (x ≡ false → (n : ℕ) → kind ≡ pos n → P) → P
kind_from kind true P e f = cc
kind_from (pos n) false P e f = f refl n refl
kind_from (negsuc n) false P e f = cc

on_connection : (s : System) (st : State) (a : ℕ) (h : Handle) (kind : ℤ) (in_vec in_len out_vec out_len : ℕ) (d : Call) (Q : Outcome → SpmState → List Handle → Type 0) → EachKind s st.spm st.handles_given a d Q → phase_of st.spm a ≡ Running
    → IfMoved Q st.handles_given (connection_called s st a h kind in_vec in_len out_vec out_len)
on_connection s st a h kind in_vec in_len out_vec out_len d Q k running =
    let b : SpmState = st.spm in
    let vs : Option Vectors = vectors_of s st.memory a in_vec in_len out_vec out_len in
    let on : (c : OpenConnection) (v : Vectors) → connection_held b a h ≡ Some c → (x : Bool) → (refuses_requests c.phase || int_lt kind (pos 0)) ≡ x → IfMoved Q st.handles_given (if x then None else Some (call_on b a c kind v)) =
    λ c v held. elim [
      | true ↦ λ e. tt
      | false ↦ λ e. kind_from kind _ _ e (λ takes n it. subst (λ (z : ℤ). Q (call_on b a c z v).outcome (call_on b a c z v).spm st.handles_given) (sym it) (k.calls running h c n v held takes))
    ] in
    let go : (o : Option OpenConnection) → connection_held b a h ≡ o
    → IfMoved Q st.handles_given (option_and_then (λ c. option_and_then (λ v. if refuses_requests c.phase || int_lt kind (pos 0) then None else Some (call_on b a c kind v)) vs) o) =
    elim [
      | None ↦ λ e. tt
      | Some c ↦ λ e. elim vs as (λ (w : Option Vectors). IfMoved Q st.handles_given (option_and_then (λ v. if refuses_requests c.phase || int_lt kind (pos 0) then None else Some (call_on b a c kind v)) w)) [
        | None ↦ tt
        | Some v ↦ on c v e _ refl
      ]
    ] in
    go _ refl

-- the item at a place that was found passes
pub position-passes : {X : Type 0} (q : X → Bool) (xs : List X) (i : ℕ) → position q xs ≡ Some i → option_map_or q (slice_get xs i) false ≡ true
position-passes q [] i e = absurd (cc)
position-passes q (x ∷ xs) i e =
    let it = position-Some q (x ∷ xs) i x e in
    ap (λ o. option_map_or q o false) (slice_get-get_or (x ∷ xs) i x it.0) ∙ it.1

-- an index is not 0
other-index : (index : ℕ) → (index == 0) ≡ false → (o : Option Service) → option_map_or (λ x. x.stateless == index) o false ≡ true → option_map_or (λ x. not (x.stateless == 0)) o false ≡ true
other-index index other None e = cc
other-index index other (Some x) e = let same : x.stateless ≡ index = eqb-true x.stateless index e in ap (λ n. not (n == 0)) same ∙ ap not other

pub stateless_is : (s : System) (index v : ℕ) → stateless_at s index ≡ Some v → is_stateless s v ≡ true
stateless_is s index v e =
    let q : Service → Bool = λ x. x.stateless == index in
    let passes : (xs : List Service) (x : Bool) → (index == 0) ≡ x → (if x then None else position q xs) ≡ Some v → option_map_or (λ y. not (y.stateless == 0)) (slice_get xs v) false ≡ true =
    λ xs. elim [ true ↦ λ k f. cc | false ↦ λ k f. let at : option_map_or q (slice_get xs v) false ≡ true = position-passes q xs v f in other-index index k (slice_get xs v) at ] in
    passes s.services (index == 0) refl e

by_index : (s : System) (st : State) (a index : ℕ) (kind : ℤ) (in_vec in_len out_vec out_len : ℕ) (d : Call) (Q : Outcome → SpmState → List Handle → Type 0) → EachKind s st.spm st.handles_given a d Q → phase_of st.spm a ≡ Running
    → IfMoved Q st.handles_given (service_called s st a index kind in_vec in_len out_vec out_len)
by_index s st a index kind in_vec in_len out_vec out_len d Q k running =
    let b : SpmState = st.spm in
    let vs : Option Vectors = vectors_of s st.memory a in_vec in_len out_vec out_len in
    let on : (i : ℕ) (v : Vectors) → is_stateless s i ≡ true → (x y : Bool) → permits s a i ≡ x → int_lt kind (pos 0) ≡ y → IfMoved Q st.handles_given (if x && not y then Some (call_to s b a i kind v) else None) =
    λ i v stateless. elim [
      | true ↦ elim [
        | true ↦ λ e f. tt
        | false ↦ λ e f. kind_from kind false _ f (λ takes n it. subst (λ (z : ℤ). Q (call_to s b a i z v).outcome (call_to s b a i z v).spm st.handles_given) (sym it) (k.asks running i n v stateless e))
      ]
      | false ↦ λ y e f. tt
    ] in
    let go : (o : Option ℕ) → stateless_at s index ≡ o
    → IfMoved Q st.handles_given (option_and_then (λ i. option_and_then (λ v. if permits s a i && not (int_lt kind (pos 0)) then Some (call_to s b a i kind v) else None) vs) o) =
    elim [
      | None ↦ λ e. tt
      | Some i ↦ λ e. elim vs as (λ (w : Option Vectors). IfMoved Q st.handles_given (option_and_then (λ v. if permits s a i && not (int_lt kind (pos 0)) then Some (call_to s b a i kind v) else None) w)) [
        | None ↦ tt
        | Some v ↦ on i v (stateless_is s index i e) _ _ refl refl
      ]
    ] in
    go _ refl

pub calls : (s : System) (st : State) (a : ℕ) (h : Handle) (kind : ℤ) (in_vec in_len out_vec out_len : ℕ) (d : Call) (Q : Outcome → SpmState → List Handle → Type 0) → EachKind s st.spm st.handles_given a d Q → phase_of st.spm a ≡ Running
    → IfMoved Q st.handles_given (psa_call s st a h kind in_vec in_len out_vec out_len)
calls s st a h kind in_vec in_len out_vec out_len d Q k running =
    elim (stateless_index h) as (λ (o : Option ℕ). IfMoved Q st.handles_given (option_map_or (λ index. service_called s st a index kind in_vec in_len out_vec out_len) o (connection_called s st a h kind in_vec in_len out_vec out_len))) [
      | None ↦ on_connection s st a h kind in_vec in_len out_vec out_len d Q k running
      | Some index ↦ by_index s st a index kind in_vec in_len out_vec out_len d Q k running
    ]

-- psa_close
pub closes : (s : System) (b : SpmState) (given : List Handle) (a : ℕ) (h : Handle) (d : Call) (Q : Outcome → SpmState → List Handle → Type 0) → EachKind s b given a d Q → phase_of b a ≡ Running → IfMoved Q given (psa_close b a h)
closes s b given a h d Q k running =
    let go : (x : Bool) (o : Option OpenConnection) → connection_held b a h ≡ o → IfMoved Q given (if x then Some (move outcome.Done b) else option_and_then (λ c. if is_busy c.phase then None else Some (close_on b a c)) o) =
    elim [
      | true ↦ λ o e. k.beside running outcome.Done b.doorbells b.sources refl
      | false ↦ elim [
        | None ↦ λ e. tt
        | Some c ↦ λ e. elim (is_busy c.phase) as (λ (y : Bool). IfMoved Q given (if y then None else Some (close_on b a c))) [ true ↦ tt | false ↦ k.closes running h c e ]
      ]
    ] in
    go (int_eq h.0 PSA_NULL_HANDLE) _ refl

-- the return of a call
returns : (s : System) (st : State) (a : ℕ) (h : Handle) (Q : Outcome → SpmState → List Handle → Type 0) (p : ActorPhase) → EachKind s st.spm st.handles_given a call.Resume Q → phase_of st.spm a ≡ p → may_resume p ≡ true
    → (gives_handle p call.Resume ≡ true → fresh st h ≡ true) → Says Q (returned s st a p h)
returns s st a h Q (Ready o) k e due new = k.returns o e
returns s st a h Q (Connected n) k e due new = k.joins refl n h e (fresh-new st h (new refl))
returns s st a h Q (Waiting mask) k e due new = k.wakes mask _ e
returns s st a h Q _ k e due new = cc

-- psa_wait
waits : (s : System) (b : SpmState) (given : List Handle) (a mask timeout : ℕ) (d : Call) (Q : Outcome → SpmState → List Handle → Type 0) → EachKind s b given a d Q → phase_of b a ≡ Running → IfMoved Q given (psa_wait s b a mask timeout)
waits s b given a mask timeout d Q k running =
    let m : Bool → Move = λ x. if x then move (outcome.Signals (bit_and (signals_of s b a) mask)) b else move outcome.Blocked (with_phase b a (Waiting mask)) in
    let on : (x : Bool) → Q (m x).outcome (m x).spm given = elim [ true ↦ k.beside running _ b.doorbells b.sources refl | false ↦ k.waits running mask ] in
    elim (has_signal_of (assigned_to s a) mask) as (λ (x : Bool). IfMoved Q given (if x then Some (m (nat_lt timeout PSA_BLOCK)) else None)) [ true ↦ on (nat_lt timeout PSA_BLOCK) | false ↦ tt ]

-- psa_get
gets : (s : System) (st : State) (a signal msg : ℕ) (h : Handle) (Q : Outcome → SpmState → List Handle → Type 0) → EachKind s st.spm st.handles_given a (call.Get signal msg) Q → phase_of st.spm a ≡ Running
    → (is_none (psa_get s st a signal msg h) ≡ false → fresh st h ≡ true) → IfThere (psa_get s st a signal msg h) (Says Q)
gets s st a signal msg h Q k running new =
    let at : ℕ → PendingMessage → Option Effect = λ i m. if valid_buffer s a msg message_size then Some (get_of s st i msg h m) else None in
    let find_in : ℕ → Option Effect = λ i. option_and_then (at i) (find (is_undelivered i) st.spm.messages) in
    let on : (i : ℕ) (m : PendingMessage) (x : Bool) → service_of_signal s a signal ≡ Some i → find (is_undelivered i) st.spm.messages ≡ Some m → (is_none (if x then Some (get_of s st i msg h m) else None) ≡ false → fresh st h ≡ true) → IfThere (if x then Some (get_of s st i msg h m) else None) (Says Q) =
    λ i m. elim [ true ↦ λ e g f. k.gets running signal msg i refl e m g h _ refl (fresh-new st h (f refl)) | false ↦ λ e g f. tt ] in
    let within : (i : ℕ) (o : Option PendingMessage) → service_of_signal s a signal ≡ Some i → find (is_undelivered i) st.spm.messages ≡ o → (is_none (option_and_then (at i) o) ≡ false → fresh st h ≡ true) → IfThere (option_and_then (at i) o) (Says Q) =
    λ i. elim [ None ↦ λ e g f. tt | Some m ↦ on i m (valid_buffer s a msg message_size) ] in
    let go : (o : Option ℕ) → service_of_signal s a signal ≡ o → (is_none (option_and_then find_in o) ≡ false → fresh st h ≡ true) → IfThere (option_and_then find_in o) (Says Q) =
    elim [ None ↦ λ e f. tt | Some i ↦ λ e. within i (find (is_undelivered i) st.spm.messages) e refl ] in
    go (service_of_signal s a signal) refl new

-- psa_set_rhandle
marks : (s : System) (b : SpmState) (given : List Handle) (a : ℕ) (h : Handle) (r : ℕ) (d : Call) (Q : Outcome → SpmState → List Handle → Type 0) → EachKind s b given a d Q → phase_of b a ≡ Running → IfMoved Q given (psa_set_rhandle s b a h r)
marks s b given a h r d Q k running =
    elim (option_and_then (λ m. m.connection) (message_held s b a h)) as (λ (o : Option ℕ). IfMoved Q given (option_map (λ n. move outcome.Done (with_rhandle b n r)) o)) [ None ↦ tt | Some n ↦ k.marks running n r ]

-- psa_skip, psa_read and psa_write
skips : (s : System) (b : SpmState) (given : List Handle) (a : ℕ) (h : Handle) (index len : ℕ) (d : Call) (Q : Outcome → SpmState → List Handle → Type 0) → EachKind s b given a d Q → phase_of b a ≡ Running → IfMoved Q given (psa_skip s b a h index len)
skips s b given a h index len d Q k running =
    elim (request_held s b a h index) as (λ (o : Option PendingMessage). IfMoved Q given (option_map (skip_of b h index len) o)) [ None ↦ tt | Some m ↦ k.moves running _ h _ refl ]

reads : (s : System) (st : State) (a : ℕ) (h : Handle) (index buffer len : ℕ) (d : Call) (Q : Outcome → SpmState → List Handle → Type 0) → EachKind s st.spm st.handles_given a d Q → phase_of st.spm a ≡ Running
    → IfThere (psa_read s st a h index buffer len) (Says Q)
reads s st a h index buffer len d Q k running =
    elim (request_held s st.spm a h index) as (λ (o : Option PendingMessage). IfThere (option_and_then (λ m. if valid_buffer s a buffer len then Some (read_of st h index buffer len m) else None) o) (Says Q)) [
      | None ↦ tt
      | Some m ↦ elim (valid_buffer s a buffer len) as (λ (x : Bool). IfThere (if x then Some (read_of st h index buffer len m) else None) (Says Q)) [ true ↦ k.moves running _ h _ refl | false ↦ tt ]
    ]

writes : (s : System) (st : State) (a : ℕ) (h : Handle) (index buffer len : ℕ) (d : Call) (Q : Outcome → SpmState → List Handle → Type 0) → EachKind s st.spm st.handles_given a d Q → phase_of st.spm a ≡ Running
    → IfThere (psa_write s st a h index buffer len) (Says Q)
writes s st a h index buffer len d Q k running =
    elim (request_held s st.spm a h index) as (λ (o : Option PendingMessage). IfThere (option_and_then (λ m. if valid_buffer s a buffer len && nat_le len (rest_of (output_at m index)) then Some (write_of st h index buffer len m) else None) o) (Says Q)) [
      | None ↦ tt
      | Some m ↦ elim (valid_buffer s a buffer len && nat_le len (rest_of (output_at m index))) as (λ (x : Bool). IfThere (if x then Some (write_of st h index buffer len m) else None) (Says Q)) [ true ↦ k.moves running _ h _ refl | false ↦ tt ]
    ]

-- psa_reply
replies : (s : System) (st : State) (a : ℕ) (h : Handle) (status : ℤ) (d : Call) (Q : Outcome → SpmState → List Handle → Type 0) → EachKind s st.spm st.handles_given a d Q → phase_of st.spm a ≡ Running
    → IfThere (psa_reply s st a h status) (Says Q)
replies s st a h status d Q k running =
    let b : SpmState = st.spm in
    let on : (m : PendingMessage) → message_held s b a h ≡ Some m → (x : Bool) → owes_panic s m status ≡ x
    → Q outcome.Done (cond {A = SpmState} x (panic_effect s (replied s b h status m) m.client.0) (replied s b h status m)) st.handles_given =
    λ m held. elim [
      | true ↦ λ e. owed-request s m status _ e (λ n kind. subst (λ (x : SpmState). Q outcome.Done x st.handles_given) (sym (owed-settled s b h status m e)) (k.owes running h status m n held kind))
      | false ↦ λ e. subst (λ (x : SpmState). Q outcome.Done x st.handles_given) (sym (replied-settled s b h status m e)) (k.replies running h status m held)
    ] in
    let go : (o : Option PendingMessage) → message_held s b a h ≡ o
    → IfThere (option_map (reply_of s st h status) (option_and_then (λ m. if int_eq m.kind PSA_IPC_CONNECT && not (is_connect_status status) then None else Some m) o)) (Says Q) =
    elim [
      | None ↦ λ e. tt
      | Some m ↦ λ e. elim (int_eq m.kind PSA_IPC_CONNECT && not (is_connect_status status)) as (λ (x : Bool). IfThere (option_map (reply_of s st h status) (if x then None else Some m)) (Says Q)) [
        | true ↦ tt
        | false ↦ on m e _ refl
      ]
    ] in
    go _ refl

-- psa_notify, psa_clear, psa_eoi, interrupts, memory: nothing but doorbells and sources
choice : {X : Type 0} (P : Option X → Type 0) (b : Bool) (x : X) → P None → P (Some x) → P (if b then Some x else None)
choice P true x none some = some
choice P false x none some = none

-- whatever becomes of the flags of the source that has a signal
sources : (s : System) (b : SpmState) (given : List Handle) (a signal : ℕ) (d : Call) (Q : Outcome → SpmState → List Handle → Type 0) (test : ℕ → Bool) (says : ℕ → Outcome) (flags : ℕ → List SourceFlags) → EachKind s b given a d Q
    → phase_of b a ≡ Running → ((i : ℕ) → is_plain (says i) ≡ true)
    → IfMoved Q given (option_and_then (λ i. if test i then Some (move (says i) (record b { sources = flags i })) else None) (source_of_signal s a signal))
sources s b given a signal d Q test says flags k running plain =
    elim (source_of_signal s a signal) as (λ (o : Option ℕ). IfMoved Q given (option_and_then (λ i. if test i then Some (move (says i) (record b { sources = flags i })) else None) o)) [
      | None ↦ tt
      | Some i ↦ choice (IfMoved Q given) (test i) _ tt (k.beside running (says i) b.doorbells (flags i) (plain i))
    ]

any_source : (s : System) (b : SpmState) (given : List Handle) (a signal : ℕ) (d : Call) (Q : Outcome → SpmState → List Handle → Type 0) (says : ℕ → Outcome) (flags : ℕ → List SourceFlags) → EachKind s b given a d Q
    → phase_of b a ≡ Running → ((i : ℕ) → is_plain (says i) ≡ true) → IfMoved Q given (option_map (λ i. move (says i) (record b { sources = flags i })) (source_of_signal s a signal))
any_source s b given a signal d Q says flags k running plain =
    elim (source_of_signal s a signal) as (λ (o : Option ℕ). IfMoved Q given (option_map (λ i. move (says i) (record b { sources = flags i })) o)) [
      | None ↦ tt
      | Some i ↦ k.beside running (says i) b.doorbells (flags i) (plain i)
    ]

-- each call that isn't a PROGRAMMER ERROR
pub call-kind : (s : System) (st : State) (a : ℕ) (c : Call) (h : Handle) (Q : Outcome → SpmState → List Handle → Type 0) → EachKind s st.spm st.handles_given a c Q → may_call s st.spm a c ≡ true
    → (gives_handle (phase_of st.spm a) c ≡ true → is_none (call_case s st a c h) ≡ false → fresh st h ≡ true) → IfThere (call_case s st a c h) (Says Q)
call-kind s st a call.FrameworkVersion h Q k may new = k.beside (caller-running s st.spm a call.FrameworkVersion (λ p. refl) may) _ st.spm.doorbells st.spm.sources refl
call-kind s st a (call.Version sid) h Q k may new = k.beside (caller-running s st.spm a (call.Version sid) (λ p. refl) may) _ st.spm.doorbells st.spm.sources refl
call-kind s st a (call.Connect sid version) h Q k may new = moved st Q _ (connects s st.spm st.handles_given a sid version (call.Connect sid version) Q k (caller-running s st.spm a (call.Connect sid version) (λ p. refl) may))
call-kind s st a (call.Invoke c kind iv il ov ol) h Q k may new = moved st Q _ (calls s st a c kind iv il ov ol (call.Invoke c kind iv il ov ol) Q k (caller-running s st.spm a (call.Invoke c kind iv il ov ol) (λ p. refl) may))
call-kind s st a (call.Close c) h Q k may new = moved st Q _ (closes s st.spm st.handles_given a c (call.Close c) Q k (caller-running s st.spm a (call.Close c) (λ p. refl) may))
call-kind s st a (call.Wait mask timeout) h Q k may new = moved st Q _ (waits s st.spm st.handles_given a mask timeout (call.Wait mask timeout) Q k (caller-running s st.spm a (call.Wait mask timeout) (λ p. refl) may))
call-kind s st a (call.Get signal msg) h Q k may new = gets s st a signal msg h Q k (caller-running s st.spm a (call.Get signal msg) (λ p. refl) may) (new refl)
call-kind s st a (call.SetRhandle c r) h Q k may new = moved st Q _ (marks s st.spm st.handles_given a c r (call.SetRhandle c r) Q k (caller-running s st.spm a (call.SetRhandle c r) (λ p. refl) may))
call-kind s st a (call.Read c i at len) h Q k may new = reads s st a c i at len (call.Read c i at len) Q k (caller-running s st.spm a (call.Read c i at len) (λ p. refl) may)
call-kind s st a (call.Skip c i len) h Q k may new = moved st Q _ (skips s st.spm st.handles_given a c i len (call.Skip c i len) Q k (caller-running s st.spm a (call.Skip c i len) (λ p. refl) may))
call-kind s st a (call.Write c i at len) h Q k may new = writes s st a c i at len (call.Write c i at len) Q k (caller-running s st.spm a (call.Write c i at len) (λ p. refl) may)
call-kind s st a (call.Reply c status) h Q k may new = replies s st a c status.0 (call.Reply c status) Q k (caller-running s st.spm a (call.Reply c status) (λ p. refl) may)
call-kind s st a (call.Notify id) h Q k may new =
    moved st Q _ (choice (IfMoved Q st.handles_given) _ _ tt (k.beside (caller-running s st.spm a (call.Notify id) (λ p. refl) may) outcome.Done _ st.spm.sources refl))
call-kind s st a call.Clear h Q k may new =
    moved st Q _ (choice (IfMoved Q st.handles_given) _ _ tt (k.beside (caller-running s st.spm a call.Clear (λ p. refl) may) outcome.Done _ st.spm.sources refl))
call-kind s st a (call.Eoi signal) h Q k may new =
    moved st Q _ (sources s st.spm st.handles_given a signal (call.Eoi signal) Q _ (λ i. outcome.Done) _ k (caller-running s st.spm a (call.Eoi signal) (λ p. refl) may) (λ i. refl))
call-kind s st a (call.IrqEnable signal) h Q k may new =
    moved st Q _ (any_source s st.spm st.handles_given a signal (call.IrqEnable signal) Q (λ i. outcome.Done) _ k (caller-running s st.spm a (call.IrqEnable signal) (λ p. refl) may) (λ i. refl))
call-kind s st a (call.IrqDisable signal) h Q k may new =
    moved st Q _ (any_source s st.spm st.handles_given a signal (call.IrqDisable signal) Q _ _ k (caller-running s st.spm a (call.IrqDisable signal) (λ p. refl) may) (λ i. refl))
call-kind s st a (call.ResetSignal signal) h Q k may new =
    moved st Q _ (sources s st.spm st.handles_given a signal (call.ResetSignal signal) Q _ (λ i. outcome.Done) _ k (caller-running s st.spm a (call.ResetSignal signal) (λ p. refl) may) (λ i. refl))
call-kind s st a call.Panic h Q k may new = tt
call-kind s st a (call.Load at size) h Q k may new =
    choice (λ o. IfThere o (Says Q)) _ _ tt (k.beside (caller-running s st.spm a (call.Load at size) (λ p. refl) may) _ st.spm.doorbells st.spm.sources refl)
call-kind s st a (call.Store at size v) h Q k may new =
    choice (λ o. IfThere o (Says Q)) _ _ tt (k.beside (caller-running s st.spm a (call.Store at size v) (λ p. refl) may) outcome.Done st.spm.doorbells st.spm.sources refl)
call-kind s st a (call.Raise source) h Q k may new =
    moved st Q _ (choice (IfMoved Q st.handles_given) _ _ tt (k.beside (caller-running s st.spm a (call.Raise source) (λ p. refl) may) outcome.Done st.spm.doorbells _ refl))
call-kind s st a (call.Fire source result) h Q k may new =
    let running : phase_of st.spm a ≡ Running = caller-running s st.spm a (call.Fire source result) (λ p. refl) may in
    let fired : (x : Bool) → IfMoved Q st.handles_given (Some (move outcome.Done (if x then interrupted s st.spm source else st.spm))) =
    elim [ true ↦ k.beside running outcome.Done st.spm.doorbells _ refl | false ↦ k.beside running outcome.Done st.spm.doorbells st.spm.sources refl ] in
    moved st Q _ (choice (IfMoved Q st.handles_given) _ _ tt (fired (result == 1)))
call-kind s st a (call.Stop spent) h Q k may new = k.ends (caller-running s st.spm a (call.Stop spent) (λ p. refl) may)
call-kind s st a call.Resume h Q k may new =
    returns s st a h Q (phase_of st.spm a) k refl (and_parts (enabled s st.spm a) _ (and_parts _ _ may).1).1 (λ e. new e refl)
