-- The kinds of change that an event makes of the messages of a state; so what each kind keeps, each step keeps.
use Rattle.std.proofs.Common.{ℕ, zero, suc, ◌≡◌, ◌≤◌, ◌+◌, arith, Bool, true, false, cond, not, ◌&&◌, ◌||◌, List, [], ◌∷◌, ◌++◌, refl, sym, ◌∙◌, subst, ap}
use Rattle.std.specs.Prelude.{ℤ, pos, int_lt, int_le, bit_and, nat_lt, nat_le, min, find, get_or, take, replicate, Option, Some, None, IfSome, option_and_then, is_none, if◌then◌else◌, ◌==◌}
use Rattle.std.specs.List.{AllByRecursion}
use Rattle.std.specs.Option.{option_map, option_map_or, unwrap_or}
use Rattle.std.specs.Ordering.{int_eq}
use Rattle.law_lists.proofs.Bools.{if_passes}
use Rattle.law_lists.proofs.Lists.{AllByRecursion-append, get_or-replicate_same}
use Rattle.ffm_model.specs.declared.constants.TheConstants.{PSA_BLOCK, PSA_MAX_IOVEC, PSA_IPC_CALL, PSA_IPC_CONNECT, PSA_IPC_DISCONNECT, PSA_NULL_HANDLE, PSA_ERROR_CONNECTION_REFUSED, PSA_ERROR_CONNECTION_BUSY, PSA_ERROR_COMMUNICATION_FAILURE}
use Rattle.ffm_model.specs.declared.system.System.{System}
use Rattle.ffm_model.specs.declared.system.ActorKind.{ActorKind}
use Rattle.ffm_model.specs.declared.system.ActorKind.TheVariants.{Partition, Client, Device}
use Rattle.ffm_model.specs.declared.machine.Handle.{Handle}
use Rattle.ffm_model.specs.declared.machine.Sid.{Sid}
use Rattle.ffm_model.specs.declared.machine.Call.{Call}
use Rattle.ffm_model.specs.declared.machine.Call.TheVariants as call
use Rattle.ffm_model.specs.declared.machine.Outcome.{Outcome}
use Rattle.ffm_model.specs.declared.machine.Outcome.TheVariants as outcome
use Rattle.ffm_model.specs.declared.objects.Span.{Span}
use Rattle.ffm_model.specs.declared.objects.Vectors.{Vectors}
use Rattle.ffm_model.specs.declared.objects.SourceFlags.{SourceFlags}
use Rattle.ffm_model.specs.declared.objects.OpenConnection.{OpenConnection}
use Rattle.ffm_model.specs.declared.objects.PendingMessage.{PendingMessage}
use Rattle.ffm_model.specs.declared.objects.ActorPhase.{ActorPhase}
use Rattle.ffm_model.specs.declared.objects.ActorPhase.TheVariants.{Running, Blocked, Waiting, Ready}
use Rattle.ffm_model.specs.declared.objects.ConnPhase.TheVariants.{Busy, Closing}
use Rattle.ffm_model.specs.Actors.{is_stateless, permits, service_at, stateless_at, stateless_index, budget_of, kind_of}
use Rattle.ffm_model.specs.Memory.{ByteMap, no_span, no_vectors, spans_at, valid_buffer, vectors_of, vectors_read}
use Rattle.ffm_model.specs.State.{SpmState, State, phase_of, with_phase, connection_held, in_use, message_held, is_undelivered, delivered, with_message, with_request, with_vectors, with_rhandle, with_connection_phase, without_connection}
use Rattle.ffm_model.specs.Signals.{signals_of, assigned_to, has_signal_of}
use Rattle.ffm_model.specs.Panic.{is_dead, panic_effect}
use Rattle.ffm_model.specs.ClientCalls.{Move, Effect, move, in_state, psa_connect, psa_call, psa_close, connection_called, service_called, call_to, connect_to, connect_issued, call_on, close_on, is_service_panicked, refuses_requests, is_busy, takes_version, returned}
use Rattle.ffm_model.specs.ServiceCalls.{psa_wait, psa_get, psa_set_rhandle, psa_skip, psa_read, psa_write, psa_reply, request_held, service_of_signal, message_size, get_of, skip_of, read_of, write_of, reply_of, rest_of, output_at, is_connect_status, replied, owes_panic}
use Rattle.ffm_model.specs.SignalCalls.{source_of_signal, interrupted}
use Rattle.ffm_model.specs.Calls.{has_call, call_case, error_effect, effect_or_error, effect_of}
use Rattle.ffm_model.specs.Step.{may_call}
use Rattle.ffm_model.proofs.StepLemmas.{effect-has}
use Rattle.law_counting.proofs.Reply.{settled}
use Rattle.law_counting.proofs.Owed.{replied-settled, owed-settled, owed-request}
use Rattle.law_counting.proofs.Events.{caller-running}

-- ---- vectors of which nothing was moved

abbrev pub Unmoved : List Span → Type 0
Unmoved vs = AllByRecursion (λ v. v.moved ≡ 0) vs

-- and those past the given ones have no byte
pub record AreNew (v : Vectors) : Type 0 where
  pub input : Unmoved v.input
  pub output : Unmoved v.output
  pub given : (i : ℕ) → v.out_len ≤ i → (get_or v.output i no_span).len ≡ 0

empty-at : (n i : ℕ) → (get_or (replicate n no_span) i no_span).len ≡ 0
empty-at n i = ap (λ (v : Span). v.len) (get_or-replicate_same n i no_span)

pub none-new : AreNew no_vectors
none-new = record { input = (refl, (refl, (refl, (refl, tt)))); output = (refl, (refl, (refl, (refl, tt)))); given = λ i past. empty-at 4 i }

spans-new : (m : ByteMap) (n a : ℕ) → Unmoved (spans_at m a n)
spans-new m zero a = tt
spans-new m (suc n) a = (refl, spans-new m n (a + 8))

take-new : (n : ℕ) (xs : List Span) → Unmoved xs → Unmoved (take n xs)
take-new zero xs h = tt
take-new (suc n) [] h = tt
take-new (suc n) (x ∷ xs) h = (h.0, take-new n xs h.1)

read-new : (m : ByteMap) (a n : ℕ) → Unmoved (vectors_read m a n)
read-new m a n = take-new 4 (spans_at m a (min n 4) ++ replicate 4 no_span) (AllByRecursion-append (λ (v : Span). v.moved ≡ 0) (spans_at m a (min n 4)) (replicate 4 no_span) (spans-new m (min n 4) a) (refl, (refl, (refl, (refl, tt)))))

spans-given : (m : ByteMap) (n a i : ℕ) → n ≤ i → (get_or (spans_at m a n ++ replicate 4 no_span) i no_span).len ≡ 0
spans-given m zero a i past = empty-at 4 i
spans-given m (suc n) a zero past = absurd (omega arith)
spans-given m (suc n) a (suc i) past = spans-given m n (a + 8) i (omega arith)

take-given : (n : ℕ) (vs : List Span) (i : ℕ) → (get_or vs i no_span).len ≡ 0 → (get_or (take n vs) i no_span).len ≡ 0
take-given zero vs i e = refl
take-given (suc n) [] i e = refl
take-given (suc n) (v ∷ vs) zero e = e
take-given (suc n) (v ∷ vs) (suc i) e = take-given n vs i e

read-given : (m : ByteMap) (a n i : ℕ) → n ≤ i → (get_or (vectors_read m a n) i no_span).len ≡ 0
read-given m a n i past = take-given 4 (spans_at m a (min n 4) ++ replicate 4 no_span) i (spans-given m (min n 4) a i (omega arith))

chosen-new : (b : Bool) (w v : Vectors) → AreNew w → (if b then Some w else None) ≡ Some v → AreNew v
chosen-new true w v h e = let same : w ≡ v = cc in subst AreNew same h
chosen-new false w v h e = cc

vectors-new : (s : System) (m : ByteMap) (a in_vec in_len out_vec out_len : ℕ) (v : Vectors) → vectors_of s m a in_vec in_len out_vec out_len ≡ Some v → AreNew v
vectors-new s m a in_vec in_len out_vec out_len v e = chosen-new _ _ v (record { input = read-new m in_vec in_len; output = read-new m out_vec out_len; given = λ i past. read-given m out_vec out_len i past }) e

-- ---- kinds of change

-- the calls that concern the messages of a partition
abbrev pub is_vector_call : Call → Bool
is_vector_call (call.Get signal msg) = true
is_vector_call (call.Read h index buffer len) = true
is_vector_call (call.Skip h index len) = true
is_vector_call (call.Write h index buffer len) = true
is_vector_call (call.Reply h status) = true
is_vector_call _ = false

-- P holds after each kind of change that the call d of the actor a makes
pub record EachChange (s : System) (b : SpmState) (a : ℕ) (d : Call) (P : SpmState → Type 0) : Type 0 where
  pub same : (new : SpmState) → new.messages ≡ b.messages → P new
  pub pushes : (new : SpmState) (m : PendingMessage) → is_none m.handle ≡ true → AreNew m.vectors → new.messages ≡ b.messages ++ m ∷ [] → P new
  pub gets : (v : ℕ) (h : Handle) (signal : ℕ) → is_vector_call d ≡ true → service_of_signal s a signal ≡ Some v → P (record b { messages = delivered v h b.messages })
  pub moves : (h : Handle) (v : Vectors) (m : PendingMessage) → is_vector_call d ≡ true → message_held s b a h ≡ Some m → P (with_vectors b h v)
  pub replies : (h : Handle) (status : ℤ) (m : PendingMessage) → is_vector_call d ≡ true → message_held s b a h ≡ Some m → P (settled b h status m)
  pub owes : (h : Handle) (status : ℤ) (m : PendingMessage) (n : ℕ) → is_vector_call d ≡ true → message_held s b a h ≡ Some m → m.kind ≡ pos n → P (panic_effect s (settled b h status m) m.client.0)
  pub panics : phase_of b a ≡ Running → P (panic_effect s b a)

-- ---- options

passes : {X : Type 0} (P : X → Type 0) (b : Bool) (x : X) → P x → IfSome (cond b (Some x) None) P
passes P b x h = if_passes P b x (λ passing. h)

abbrev IfMoved : (SpmState → Type 0) → Option Move → Type 0
IfMoved P o = IfSome o (λ m. P m.spm)

abbrev IfMade : (SpmState → Type 0) → Option Effect → Type 0
IfMade P o = IfSome o (λ e. P e.state.spm)

moved : (P : SpmState → Type 0) (st : State) (o : Option Move) → IfMoved P o → IfMade P (option_map (in_state st) o)
moved P st None h = tt
moved P st (Some m) h = h

-- ---- calls of clients

connect_to-changes : (s : System) (b : SpmState) (a i : ℕ) (d : Call) (P : SpmState → Type 0) → EachChange s b a d P → P (connect_to s b a i).spm
connect_to-changes s b a i d P k =
    let go : (x y : Bool) → P (cond {A = Move} x (move (outcome.Value PSA_ERROR_CONNECTION_REFUSED) b) (cond {A = Move} y (move (outcome.Value PSA_ERROR_CONNECTION_BUSY) b) (move outcome.Blocked (connect_issued b a i)))).spm =
    elim [ true ↦ λ y. k.same b refl | false ↦ elim [ true ↦ k.same b refl | false ↦ k.pushes (connect_issued b a i) _ refl none-new refl ] ] in
    go (is_service_panicked s b i) (in_use b a i == unwrap_or (budget_of s a i) 0)

connects : (s : System) (b : SpmState) (a : ℕ) (sid : Sid) (version : ℕ) (d : Call) (P : SpmState → Type 0) → EachChange s b a d P → IfMoved P (psa_connect s b a sid version)
connects s b a sid version d P k =
    elim (service_at s sid) as (λ (o : Option ℕ). IfMoved P (option_and_then (λ i. if permits s a i && (not (is_stateless s i) && takes_version s i version) then Some (connect_to s b a i) else None) o)) [
      | None ↦ tt
      | Some i ↦ passes (λ (m : Move). P m.spm) (permits s a i && (not (is_stateless s i) && takes_version s i version)) (connect_to s b a i) (connect_to-changes s b a i d P k)
    ]

call_on-changes : (s : System) (b : SpmState) (a : ℕ) (c : OpenConnection) (kind : ℤ) (v : Vectors) (d : Call) (P : SpmState → Type 0) → EachChange s b a d P → AreNew v → P (call_on b a c kind v).spm
call_on-changes s b a c kind v d P k new =
    elim (is_dead c.phase) as (λ (x : Bool). P (cond {A = Move} x (move (outcome.Value PSA_ERROR_COMMUNICATION_FAILURE) b) (move outcome.Blocked (with_phase (with_message (with_connection_phase b c.serial Busy) c kind v) a Blocked))).spm) [
      | true ↦ k.same b refl
      | false ↦ k.pushes (with_phase (with_message (with_connection_phase b c.serial Busy) c kind v) a Blocked) _ refl new refl
    ]

on_connection : (s : System) (st : State) (a : ℕ) (h : Handle) (kind : ℤ) (in_vec in_len out_vec out_len : ℕ) (d : Call) (P : SpmState → Type 0) → EachChange s st.spm a d P
    → IfMoved P (connection_called s st a h kind in_vec in_len out_vec out_len)
on_connection s st a h kind in_vec in_len out_vec out_len d P k =
    let on : (c : OpenConnection) (vs : Option Vectors) → vectors_of s st.memory a in_vec in_len out_vec out_len ≡ vs
    → IfMoved P (option_and_then (λ v. if refuses_requests c.phase || int_lt kind (pos 0) then None else Some (call_on st.spm a c kind v)) vs) =
    λ c. elim [
      | None ↦ λ e. tt
      | Some v ↦ λ e. elim (refuses_requests c.phase || int_lt kind (pos 0)) as (λ (x : Bool). IfMoved P (if x then None else Some (call_on st.spm a c kind v))) [
        | true ↦ tt
        | false ↦ call_on-changes s st.spm a c kind v d P k (vectors-new s st.memory a in_vec in_len out_vec out_len v e)
      ]
    ] in
    elim (connection_held st.spm a h) as (λ (o : Option OpenConnection).
    IfMoved P (option_and_then (λ c. option_and_then (λ v. if refuses_requests c.phase || int_lt kind (pos 0) then None else Some (call_on st.spm a c kind v)) (vectors_of s st.memory a in_vec in_len out_vec out_len)) o)) [
      | None ↦ tt
      | Some c ↦ on c (vectors_of s st.memory a in_vec in_len out_vec out_len) refl
    ]

call_to-changes : (s : System) (b : SpmState) (a service : ℕ) (kind : ℤ) (v : Vectors) (d : Call) (P : SpmState → Type 0) → EachChange s b a d P → AreNew v → P (call_to s b a service kind v).spm
call_to-changes s b a service kind v d P k new =
    elim (is_service_panicked s b service) as (λ (x : Bool). P (cond {A = Move} x (move (outcome.Value PSA_ERROR_COMMUNICATION_FAILURE) b) (move outcome.Blocked (with_phase (with_request b a service kind v) a Blocked))).spm) [
      | true ↦ k.same b refl
      | false ↦ k.pushes (with_phase (with_request b a service kind v) a Blocked) _ refl new refl
    ]

by_index : (s : System) (st : State) (a index : ℕ) (kind : ℤ) (in_vec in_len out_vec out_len : ℕ) (d : Call) (P : SpmState → Type 0) → EachChange s st.spm a d P
    → IfMoved P (service_called s st a index kind in_vec in_len out_vec out_len)
by_index s st a index kind in_vec in_len out_vec out_len d P k =
    let on : (i : ℕ) (vs : Option Vectors) → vectors_of s st.memory a in_vec in_len out_vec out_len ≡ vs
    → IfMoved P (option_and_then (λ v. if permits s a i && not (int_lt kind (pos 0)) then Some (call_to s st.spm a i kind v) else None) vs) =
    λ i. elim [
      | None ↦ λ e. tt
      | Some v ↦ λ e. passes (λ (m : Move). P m.spm) (permits s a i && not (int_lt kind (pos 0))) (call_to s st.spm a i kind v) (call_to-changes s st.spm a i kind v d P k (vectors-new s st.memory a in_vec in_len out_vec out_len v e))
    ] in
    elim (stateless_at s index) as (λ (o : Option ℕ).
    IfMoved P (option_and_then (λ i. option_and_then (λ v. if permits s a i && not (int_lt kind (pos 0)) then Some (call_to s st.spm a i kind v) else None) (vectors_of s st.memory a in_vec in_len out_vec out_len)) o)) [
      | None ↦ tt
      | Some i ↦ on i (vectors_of s st.memory a in_vec in_len out_vec out_len) refl
    ]

calls : (s : System) (st : State) (a : ℕ) (h : Handle) (kind : ℤ) (in_vec in_len out_vec out_len : ℕ) (d : Call) (P : SpmState → Type 0) → EachChange s st.spm a d P → IfMoved P (psa_call s st a h kind in_vec in_len out_vec out_len)
calls s st a h kind in_vec in_len out_vec out_len d P k =
    elim (stateless_index h) as (λ (o : Option ℕ). IfMoved P (option_map_or (λ index. service_called s st a index kind in_vec in_len out_vec out_len) o (connection_called s st a h kind in_vec in_len out_vec out_len))) [
      | None ↦ on_connection s st a h kind in_vec in_len out_vec out_len d P k
      | Some index ↦ by_index s st a index kind in_vec in_len out_vec out_len d P k
    ]

close_on-changes : (s : System) (b : SpmState) (a : ℕ) (c : OpenConnection) (d : Call) (P : SpmState → Type 0) → EachChange s b a d P → P (close_on b a c).spm
close_on-changes s b a c d P k =
    elim (is_dead c.phase) as (λ (x : Bool). P (cond {A = Move} x (move outcome.Done (without_connection b c.serial)) (move outcome.Blocked (with_phase (with_message (with_connection_phase b c.serial Closing) c PSA_IPC_DISCONNECT no_vectors) a Blocked))).spm) [
      | true ↦ k.same (without_connection b c.serial) refl
      | false ↦ k.pushes (with_phase (with_message (with_connection_phase b c.serial Closing) c PSA_IPC_DISCONNECT no_vectors) a Blocked) _ refl none-new refl
    ]

closes : (s : System) (b : SpmState) (a : ℕ) (h : Handle) (d : Call) (P : SpmState → Type 0) → EachChange s b a d P → IfMoved P (psa_close b a h)
closes s b a h d P k =
    let on : (o : Option OpenConnection) → IfMoved P (option_and_then (λ c. if is_busy c.phase then None else Some (close_on b a c)) o) =
    elim [
      | None ↦ tt
      | Some c ↦ elim (is_busy c.phase) as (λ (x : Bool). IfMoved P (if x then None else Some (close_on b a c))) [ true ↦ tt | false ↦ close_on-changes s b a c d P k ]
    ] in
    elim (int_eq h.0 PSA_NULL_HANDLE) as (λ (x : Bool). IfMoved P (if x then Some (move outcome.Done b) else option_and_then (λ c. if is_busy c.phase then None else Some (close_on b a c)) (connection_held b a h))) [
      | true ↦ k.same b refl
      | false ↦ on (connection_held b a h)
    ]

returned-changes : (s : System) (st : State) (a : ℕ) (p : ActorPhase) (h : Handle) (d : Call) (P : SpmState → Type 0) → EachChange s st.spm a d P → P (returned s st a p h).state.spm
returned-changes s st a (Ready o) h d P k = k.same _ refl
returned-changes s st a _ h d P k = k.same _ refl

-- ---- calls of services

waits : (s : System) (b : SpmState) (a mask timeout : ℕ) (d : Call) (P : SpmState → Type 0) → EachChange s b a d P → IfMoved P (psa_wait s b a mask timeout)
waits s b a mask timeout d P k =
    passes (λ (m : Move). P m.spm) (has_signal_of (assigned_to s a) mask) _
    (elim (nat_lt timeout PSA_BLOCK) as (λ (x : Bool). P (cond {A = Move} x (move (outcome.Signals (bit_and (signals_of s b a) mask)) b) (move outcome.Blocked (with_phase b a (Waiting mask)))).spm) [ true ↦ k.same b refl | false ↦ k.same _ refl ])

marks : (s : System) (b : SpmState) (a : ℕ) (h : Handle) (rhandle : ℕ) (d : Call) (P : SpmState → Type 0) → EachChange s b a d P → IfMoved P (psa_set_rhandle s b a h rhandle)
marks s b a h rhandle d P k =
    elim (option_and_then (λ m. m.connection) (message_held s b a h)) as (λ (o : Option ℕ). IfMoved P (option_map (λ n. move outcome.Done (with_rhandle b n rhandle)) o)) [ None ↦ tt | Some n ↦ k.same (with_rhandle b n rhandle) refl ]

-- ---- the calls on messages, with what each needs

pub get-made : (s : System) (st : State) (a signal msg : ℕ) (h : Handle) (Q : Effect → Type 0)
    → ((v : ℕ) (m : PendingMessage) → service_of_signal s a signal ≡ Some v → find (is_undelivered v) st.spm.messages ≡ Some m → valid_buffer s a msg message_size ≡ true → Q (get_of s st v msg h m)) → IfSome (psa_get s st a signal msg h) Q
get-made s st a signal msg h Q f =
    let on : (v : ℕ) (o : Option PendingMessage) → service_of_signal s a signal ≡ Some v → find (is_undelivered v) st.spm.messages ≡ o
    → IfSome (option_and_then (λ m. if valid_buffer s a msg message_size then Some (get_of s st v msg h m) else None) o) Q =
    λ v. elim [ None ↦ λ e g. tt | Some m ↦ λ e g. if_passes Q (valid_buffer s a msg message_size) (get_of s st v msg h m) (f v m e g) ] in
    let go : (o : Option ℕ) → service_of_signal s a signal ≡ o
    → IfSome (option_and_then (λ v. option_and_then (λ m. if valid_buffer s a msg message_size then Some (get_of s st v msg h m) else None) (find (is_undelivered v) st.spm.messages)) o) Q =
    elim [ None ↦ λ e. tt | Some v ↦ λ e. on v (find (is_undelivered v) st.spm.messages) e refl ] in
    go (service_of_signal s a signal) refl

-- a request that is held
pub record IsRequest (s : System) (b : SpmState) (a : ℕ) (h : Handle) (index : ℕ) (m : PendingMessage) : Type 0 where
  pub held : message_held s b a h ≡ Some m
  pub index_fits : nat_lt index PSA_MAX_IOVEC ≡ true

pub request-is : (s : System) (b : SpmState) (a : ℕ) (h : Handle) (index : ℕ) (m : PendingMessage) → request_held s b a h index ≡ Some m → IsRequest s b a h index m
request-is s b a h index m e =
    let chosen : (x y : Bool) (n : PendingMessage) → nat_lt index PSA_MAX_IOVEC ≡ y → message_held s b a h ≡ Some n → (if x && y then Some n else None) ≡ Some m → IsRequest s b a h index m =
    elim [
      | true ↦ elim [ true ↦ λ n lt g f. record { held = g ∙ f; index_fits = lt } | false ↦ λ n lt g f. cc ]
      | false ↦ λ y n lt g f. cc
    ] in
    let go : (o : Option PendingMessage) → message_held s b a h ≡ o → option_and_then (λ n. if int_le PSA_IPC_CALL n.kind && nat_lt index PSA_MAX_IOVEC then Some n else None) o ≡ Some m → IsRequest s b a h index m =
    elim [ None ↦ λ g f. cc | Some n ↦ λ g f. chosen _ _ n refl g f ] in
    go (message_held s b a h) refl e

pub skip-made : (s : System) (st : State) (a : ℕ) (h : Handle) (index len : ℕ) (Q : Effect → Type 0)
    → ((m : PendingMessage) → request_held s st.spm a h index ≡ Some m → Q (in_state st (skip_of st.spm h index len m))) → IfSome (option_map (in_state st) (psa_skip s st.spm a h index len)) Q
skip-made s st a h index len Q f =
    let go : (o : Option PendingMessage) → request_held s st.spm a h index ≡ o → IfSome (option_map (in_state st) (option_map (skip_of st.spm h index len) o)) Q =
    elim [ None ↦ λ e. tt | Some m ↦ λ e. f m e ] in
    go (request_held s st.spm a h index) refl

pub read-made : (s : System) (st : State) (a : ℕ) (h : Handle) (index buffer len : ℕ) (Q : Effect → Type 0)
    → ((m : PendingMessage) → request_held s st.spm a h index ≡ Some m → Q (read_of st h index buffer len m)) → IfSome (psa_read s st a h index buffer len) Q
read-made s st a h index buffer len Q f =
    let go : (o : Option PendingMessage) → request_held s st.spm a h index ≡ o → IfSome (option_and_then (λ m. if valid_buffer s a buffer len then Some (read_of st h index buffer len m) else None) o) Q =
    elim [ None ↦ λ e. tt | Some m ↦ λ e. passes Q (valid_buffer s a buffer len) (read_of st h index buffer len m) (f m e) ] in
    go (request_held s st.spm a h index) refl

pub write-made : (s : System) (st : State) (a : ℕ) (h : Handle) (index buffer len : ℕ) (Q : Effect → Type 0)
    → ((m : PendingMessage) → request_held s st.spm a h index ≡ Some m → Q (write_of st h index buffer len m)) → IfSome (psa_write s st a h index buffer len) Q
write-made s st a h index buffer len Q f =
    let go : (o : Option PendingMessage) → request_held s st.spm a h index ≡ o → IfSome (option_and_then (λ m. if valid_buffer s a buffer len && nat_le len (rest_of (output_at m index)) then Some (write_of st h index buffer len m) else None) o) Q =
    elim [ None ↦ λ e. tt | Some m ↦ λ e. passes Q (valid_buffer s a buffer len && nat_le len (rest_of (output_at m index))) (write_of st h index buffer len m) (f m e) ] in
    go (request_held s st.spm a h index) refl

pub reply-made : (s : System) (st : State) (a : ℕ) (h : Handle) (status : ℤ) (Q : Effect → Type 0)
    → ((m : PendingMessage) → message_held s st.spm a h ≡ Some m → Q (reply_of s st h status m)) → IfSome (psa_reply s st a h status) Q
reply-made s st a h status Q f =
    let go : (o : Option PendingMessage) → message_held s st.spm a h ≡ o
    → IfSome (option_map (reply_of s st h status) (option_and_then (λ m. if int_eq m.kind PSA_IPC_CONNECT && not (is_connect_status status) then None else Some m) o)) Q =
    elim [
      | None ↦ λ e. tt
      | Some m ↦ λ e. elim (int_eq m.kind PSA_IPC_CONNECT && not (is_connect_status status)) as (λ (x : Bool). IfSome (option_map (reply_of s st h status) (if x then None else Some m)) Q) [ true ↦ tt | false ↦ f m e ]
    ] in
    go (message_held s st.spm a h) refl

-- a reply settles, and may owe a panic
pub reply-leaves : (s : System) (b : SpmState) (h : Handle) (status : ℤ) (m : PendingMessage) (P : SpmState → Type 0) → P (settled b h status m)
    → ((n : ℕ) → m.kind ≡ pos n → P (panic_effect s (settled b h status m) m.client.0)) → P (if owes_panic s m status then panic_effect s (replied s b h status m) m.client.0 else replied s b h status m)
reply-leaves s b h status m P quiet owed =
    let go : (x : Bool) → owes_panic s m status ≡ x → P (if x then panic_effect s (replied s b h status m) m.client.0 else replied s b h status m) =
    elim [
      | true ↦ λ e. owed-request s m status _ e (λ n kind. subst P (sym (owed-settled s b h status m e)) (owed n kind))
      | false ↦ λ e. subst P (sym (replied-settled s b h status m e)) quiet
    ] in
    go (owes_panic s m status) refl

-- ---- each call

flagged : (s : System) (b : SpmState) (a : ℕ) (d : Call) (P : SpmState → Type 0) (test : ℕ → Bool) (says : ℕ → Outcome) (flags : ℕ → List SourceFlags) (o : Option ℕ) → EachChange s b a d P
    → IfMoved P (option_and_then (λ i. if test i then Some (move (says i) (record b { sources = flags i })) else None) o)
flagged s b a d P test says flags None k = tt
flagged s b a d P test says flags (Some i) k = passes (λ (m : Move). P m.spm) (test i) _ (k.same (record b { sources = flags i }) refl)

flags_put : (s : System) (b : SpmState) (a : ℕ) (d : Call) (P : SpmState → Type 0) (says : ℕ → Outcome) (flags : ℕ → List SourceFlags) (o : Option ℕ) → EachChange s b a d P
    → IfMoved P (option_map (λ i. move (says i) (record b { sources = flags i })) o)
flags_put s b a d P says flags None k = tt
flags_put s b a d P says flags (Some i) k = k.same (record b { sources = flags i }) refl

fired : (s : System) (b : SpmState) (a source : ℕ) (d : Call) (P : SpmState → Type 0) → EachChange s b a d P → (x : Bool) → P (if x then interrupted s b source else b)
fired s b a source d P k true = k.same (interrupted s b source) refl
fired s b a source d P k false = k.same b refl

call-changes : (s : System) (st : State) (a : ℕ) (c : Call) (h : Handle) (P : SpmState → Type 0) → EachChange s st.spm a c P → IfMade P (call_case s st a c h)
call-changes s st a call.FrameworkVersion h P k = k.same st.spm refl
call-changes s st a (call.Version sid) h P k = k.same st.spm refl
call-changes s st a (call.Connect sid version) h P k = moved P st _ (connects s st.spm a sid version _ P k)
call-changes s st a (call.Invoke c kind iv il ov ol) h P k = moved P st _ (calls s st a c kind iv il ov ol _ P k)
call-changes s st a (call.Close c) h P k = moved P st _ (closes s st.spm a c _ P k)
call-changes s st a (call.Wait mask timeout) h P k = moved P st _ (waits s st.spm a mask timeout _ P k)
call-changes s st a (call.Get signal msg) h P k = get-made s st a signal msg h (λ e. P e.state.spm) (λ v m e g room. k.gets v h signal refl e)
call-changes s st a (call.SetRhandle m r) h P k = moved P st _ (marks s st.spm a m r _ P k)
call-changes s st a (call.Read m index buffer len) h P k = read-made s st a m index buffer len (λ e. P e.state.spm) (λ x e. k.moves m _ x refl (request-is s st.spm a m index x e).held)
call-changes s st a (call.Skip m index len) h P k = skip-made s st a m index len (λ e. P e.state.spm) (λ x e. k.moves m _ x refl (request-is s st.spm a m index x e).held)
call-changes s st a (call.Write m index buffer len) h P k = write-made s st a m index buffer len (λ e. P e.state.spm) (λ x e. k.moves m _ x refl (request-is s st.spm a m index x e).held)
call-changes s st a (call.Reply m status) h P k = reply-made s st a m status.0 (λ e. P e.state.spm) (λ x e. reply-leaves s st.spm m status.0 x P (k.replies m status.0 x refl e) (λ n kind. k.owes m status.0 x n refl e kind))
call-changes s st a (call.Eoi signal) h P k = moved P st _ (flagged s st.spm a _ P _ (λ i. outcome.Done) _ (source_of_signal s a signal) k)
call-changes s st a (call.IrqEnable signal) h P k = moved P st _ (flags_put s st.spm a _ P (λ i. outcome.Done) _ (source_of_signal s a signal) k)
call-changes s st a (call.IrqDisable signal) h P k = moved P st _ (flags_put s st.spm a _ P _ _ (source_of_signal s a signal) k)
call-changes s st a (call.ResetSignal signal) h P k = moved P st _ (flagged s st.spm a _ P _ (λ i. outcome.Done) _ (source_of_signal s a signal) k)
call-changes s st a call.Panic h P k = tt
call-changes s st a (call.Load at size) h P k = passes (λ (e : Effect). P e.state.spm) _ _ (k.same st.spm refl)
call-changes s st a (call.Store at size value) h P k = passes (λ (e : Effect). P e.state.spm) _ _ (k.same st.spm refl)
call-changes s st a (call.Fire source result) h P k = moved P st _ (passes (λ (m : Move). P m.spm) _ _ (fired s st.spm a source _ P k (result == 1)))
call-changes s st a (call.Stop spent) h P k = k.same _ refl
call-changes s st a call.Resume h P k = returned-changes s st a (phase_of st.spm a) h call.Resume P k
call-changes s st a _ h P k = moved P st _ (passes (λ (m : Move). P m.spm) _ _ (k.same _ refl))

-- ---- each event

errors : (s : System) (st : State) (a : ℕ) (c : Call) (P : SpmState → Type 0) → EachChange s st.spm a c P → phase_of st.spm a ≡ Running → (k : ActorKind) → P (error_effect k s st a c).state.spm
errors s st a c P k running Partition = k.panics running
errors s st a c P k running Client = k.same st.spm refl
errors s st a c P k running Device = k.same st.spm refl

-- a return is never a PROGRAMMER ERROR
resume-changes : (s : System) (st : State) (a : ℕ) (h : Handle) (P : SpmState → Type 0) → P (returned s st a (phase_of st.spm a) h).state.spm → (kind : ActorKind)
    → P (effect_or_error (if has_call kind call.Resume then Some (returned s st a (phase_of st.spm a) h) else None) kind s st a call.Resume).state.spm
resume-changes s st a h P made Partition = made
resume-changes s st a h P made _ = made

pub effect-changes : (s : System) (st : State) (a : ℕ) (c : Call) (h : Handle) (P : SpmState → Type 0) → EachChange s st.spm a c P → may_call s st.spm a c ≡ true → P (effect_of s st a c h).state.spm
effect-changes s st a call.Resume h P k may = resume-changes s st a h P (returned-changes s st a (phase_of st.spm a) h call.Resume P k) (kind_of s a)
effect-changes s st a c h P k may =
    effect-has (λ (e : Effect). P e.state.spm) s st a c h (errors s st a c P k (caller-running s st.spm a c (λ p. refl) may) (kind_of s a)) (call-changes s st a c h P k)
